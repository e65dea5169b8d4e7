use Rattle.std.proofs.Common.{refl, []}
use Rattle.page_run.specs.Outcome.{Goes}
use Rattle.lua_machine.specs.LuaHeapReach.{nowhere}
use Rattle.page_ground.specs.LuaMeaningQuestions.{NoPage}
use Rattle.page_ground.specs.LuaPointsTold.{as_none}
use Rattle.page_tasks.proofs.Answering.{at_once, no_calls_fit}
use Rattle.page_tasks.proofs.telling.tell_none.Goals as goal

pub tell-requires-clause-of : goal.tell-requires-clause-of
tell-requires-clause-of g c = c.requires.of

pub tell-requires-clause-waits : goal.tell-requires-clause-waits
tell-requires-clause-waits g c = c.requires.waits

pub tell-requires-clause-back : goal.tell-requires-clause-back
tell-requires-clause-back g c = c.requires.back

pub tell-requires-clause-answer : goal.tell-requires-clause-answer
tell-requires-clause-answer g c = tt

pub tell-requires-clause-height : goal.tell-requires-clause-height
tell-requires-clause-height g c = no_calls_fit c.args.left.now.calls

pub returns-clause-halts : goal.returns-clause-halts
returns-clause-halts g c = c.tell.ensures.halts

pub returns-clause-goes : goal.returns-clause-goes
returns-clause-goes g c = at_once c.args.left.now c.args.task c.tell.new.store c.tell.new.left c.tell.result c.args.store.now c.args.turns.now c.tell.new.turns [] NoPage (Goes []) refl (λ S. (nowhere, as_none S c.args.store.now.heap)) c.tell.ensures.goes

pub returns-clause-falls : goal.returns-clause-falls
returns-clause-falls g c = c.tell.ensures.falls
