use Rattle.page_driver.proofs.handing.tell_kept.Goals as goal

pub returns-in-Ok-clause-halts : goal.returns-in-Ok-clause-halts
returns-in-Ok-clause-halts g c = c.in_ok-halted.ensures.halts

pub returns-in-Ok-clause-goes : goal.returns-in-Ok-clause-goes
returns-in-Ok-clause-goes g c = c.in_ok-halted.ensures.goes

pub returns-in-Ok-clause-falls : goal.returns-in-Ok-clause-falls
returns-in-Ok-clause-falls g c = c.in_ok-halted.ensures.falls

pub returns-in-Ok-clause-keep : goal.returns-in-Ok-clause-keep
returns-in-Ok-clause-keep g c = rw c.in-Ok.is at c.keep_first.ensures
