use Rattle.page_driver.proofs.page.expand_page.Goals as goal

pub expand_page_in-requires-clause-fresh : goal.expand_page_in-requires-clause-fresh
expand_page_in-requires-clause-fresh g c = c.new-store.ensures

pub returns-clause-page : goal.returns-clause-page
returns-clause-page g c = c.expand_page_in.ensures.page

pub returns-clause-rises : goal.returns-clause-rises
returns-clause-rises g c = c.expand_page_in.ensures.rises

pub returns-clause-paid : goal.returns-clause-paid
returns-clause-paid g c = c.expand_page_in.ensures.paid
