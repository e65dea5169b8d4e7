use Rattle.page_driver.proofs.job.run_job.Goals as goal

pub run_in-requires-clause-fresh : goal.run_in-requires-clause-fresh
run_in-requires-clause-fresh g c = c.new-store.ensures

pub run_in-requires-clause-names : goal.run_in-requires-clause-names
run_in-requires-clause-names g c = c.requires.names

pub run_in-requires-clause-countable : goal.run_in-requires-clause-countable
run_in-requires-clause-countable g c = c.requires.countable

pub returns-clause-ends : goal.returns-clause-ends
returns-clause-ends g c = c.run_in.ensures.ends

pub returns-clause-rises : goal.returns-clause-rises
returns-clause-rises g c = c.run_in.ensures.rises

pub returns-clause-paid : goal.returns-clause-paid
returns-clause-paid g c = c.run_in.ensures.paid
