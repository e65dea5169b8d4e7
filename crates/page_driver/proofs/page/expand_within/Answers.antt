use Rattle.std.proofs.Common.{refl}
use Rattle.page_driver.proofs.page.expand_within.Goals as goal

pub come_from-requires-clause-fresh : goal.come_from-requires-clause-fresh
come_from-requires-clause-fresh g c = c.requires.fresh

pub come_from-requires-clause-held : goal.come_from-requires-clause-held
come_from-requires-clause-held g c = c.requires.held

pub come_from-requires-clause-countable : goal.come_from-requires-clause-countable
come_from-requires-clause-countable g c = c.requires.countable

pub come_from-requires-clause-root : goal.come_from-requires-clause-root
come_from-requires-clause-root g c = c.in_ok-root.ensures

pub returns-clause-page : goal.returns-clause-page
returns-clause-page g c = c.in_ok-came.ensures.page (record { title = c.in_ok-title.title; text = c.in_ok-text.text; left = c.in_ok-came.came.left; repeat_charges = c.in_ok-came.came.repeat_charges }) c.in_ok-title.ensures c.in_ok-text.ensures refl refl

pub returns-clause-rises : goal.returns-clause-rises
returns-clause-rises g c = c.in_ok-came.ensures.rises

pub returns-clause-paid : goal.returns-clause-paid
returns-clause-paid g c = c.in_ok-came.ensures.paid
