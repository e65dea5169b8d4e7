use Rattle.page_driver.proofs.page.expand_page_in.Goals as goal

pub returns-clause-page : goal.returns-clause-page
returns-clause-page g c = c.expand_within.ensures.page

pub returns-clause-rises : goal.returns-clause-rises
returns-clause-rises g c = c.expand_within.ensures.rises

pub returns-clause-paid : goal.returns-clause-paid
returns-clause-paid g c = c.expand_within.ensures.paid
