use Rattle.page_driver.proofs.Whole.{full_is}
use Rattle.page_driver.proofs.begin.full_left.Goals as goal

pub returns-clause-full : goal.returns-clause-full
returns-clause-full c = full_is c.full.result c.args.limits.now c.full.ensures.steps c.full.ensures.nodes c.full.ensures.bytes c.full.ensures.calls c.full.ensures.depth c.full.ensures.templates
