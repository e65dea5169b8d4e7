use Rattle.page_tasks.proofs.telling.tell_unpaid.Goals as goal

pub tell_text-requires-clause-of : goal.tell_text-requires-clause-of
tell_text-requires-clause-of g c = c.requires.of

pub tell_text-requires-clause-waits : goal.tell_text-requires-clause-waits
tell_text-requires-clause-waits g c = c.requires.waits

pub tell_text-requires-clause-back : goal.tell_text-requires-clause-back
tell_text-requires-clause-back g c = record { calls = c.requires.back.calls; depth = c.requires.back.depth; templates = c.requires.back.templates }

pub returns-clause-halts : goal.returns-clause-halts
returns-clause-halts g c = c.tell_text.ensures.halts

pub returns-clause-goes : goal.returns-clause-goes
returns-clause-goes g c = c.tell_text.ensures.goes

pub returns-clause-falls : goal.returns-clause-falls
returns-clause-falls g c = c.tell_text.ensures.falls
