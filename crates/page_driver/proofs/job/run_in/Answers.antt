use Rattle.page_driver.proofs.job.run_in.Goals as goal

pub returns-clause-ends : goal.returns-clause-ends
returns-clause-ends g c = c.run_within.ensures.ends

pub returns-clause-rises : goal.returns-clause-rises
returns-clause-rises g c = c.run_within.ensures.rises

pub returns-clause-paid : goal.returns-clause-paid
returns-clause-paid g c = c.run_within.ensures.paid
