use Rattle.page_driver.proofs.asking.serve_kept.Goals as goal

pub tell_data-requires-clause-back : goal.tell_data-requires-clause-back
tell_data-requires-clause-back g c = record { calls = c.requires.back.calls; depth = c.requires.back.depth; templates = c.requires.back.templates }

pub returns-clause-halts : goal.returns-clause-halts
returns-clause-halts g c = c.tell_data.ensures.halts

pub returns-clause-goes : goal.returns-clause-goes
returns-clause-goes g c = c.tell_data.ensures.goes

pub returns-clause-falls : goal.returns-clause-falls
returns-clause-falls g c = c.tell_data.ensures.falls
