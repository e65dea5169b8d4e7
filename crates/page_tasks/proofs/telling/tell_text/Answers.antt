use Rattle.std.proofs.Common.{◌≡◌, List, ℕ, ◌+◌, refl, subst, [], ◌∷◌}
use Rattle.std.specs.Prelude.{IfOk}
use Rattle.page_run.specs.Outcome.{Goes}
use Rattle.page_run.specs.State.{Gives}
use Rattle.lua_machine.specs.LuaHeapReach.{nowhere}
use Rattle.lua_code.specs.LuaHeapValue.{Text}
use Rattle.page_ground.specs.LuaMeaningQuestions.{Expanded}
use Rattle.page_ground.specs.LuaPointsTold.{as_text}
use Rattle.page_tasks.specs.Going.{GoesOnWith}
use Rattle.page_tasks.proofs.Answering.{at_once, no_calls_fit}
use Rattle.page_tasks.proofs.telling.tell_text.Goals as goal

pub tell-requires-clause-of : goal.tell-requires-clause-of
tell-requires-clause-of g c = c.requires.of

pub tell-requires-clause-waits : goal.tell-requires-clause-waits
tell-requires-clause-waits g c = c.requires.waits

pub tell-requires-clause-back : goal.tell-requires-clause-back
tell-requires-clause-back g c = c.requires.back

pub tell-requires-clause-answer : goal.tell-requires-clause-answer
tell-requires-clause-answer g c = tt

pub tell-requires-clause-height : goal.tell-requires-clause-height
tell-requires-clause-height g c = no_calls_fit c.args.left.now.calls

pub returns-in-Ok-clause-halts : goal.returns-in-Ok-clause-halts
returns-in-Ok-clause-halts g c = c.tell.ensures.halts

pub returns-in-Ok-clause-goes : goal.returns-in-Ok-clause-goes
returns-in-Ok-clause-goes g c =
    subst (λ (t : List ℕ). IfOk c.tell.result (λ x. (n : ℕ) → c.tell.new.turns ≡ c.args.turns.now + n → GoesOnWith c.args.store.now c.args.left.now c.args.task (Gives (Expanded t)) 0 c.tell.new.store c.tell.new.left n x)) (rw c.in-Ok.is at c.outcome_text.ensures)
    (at_once c.args.left.now c.args.task c.tell.new.store c.tell.new.left c.tell.result c.args.store.now c.args.turns.now c.tell.new.turns c.in-Ok.text (Expanded c.in-Ok.text) (Goes (Text c.in-Ok.text ∷ [])) refl (λ S. (nowhere, as_text S c.args.store.now.heap c.in-Ok.text)) c.tell.ensures.goes)

pub returns-in-Ok-clause-falls : goal.returns-in-Ok-clause-falls
returns-in-Ok-clause-falls g c = c.tell.ensures.falls
