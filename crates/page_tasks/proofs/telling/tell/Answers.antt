use Rattle.std.proofs.Common.{◌≡◌, ℕ, ◌+◌, List, subst}
use Rattle.std.specs.Prelude.{IfOk}
use Rattle.page_ground.specs.LuaMeaningQuestions.{Answer}
use Rattle.page_ground.specs.PageMeaningTasks.{text_of}
use Rattle.page_tasks.specs.declared.task.Halted.{Halted}
use Rattle.page_tasks.specs.Going.{ToldFrom}
use Rattle.lua_machine.specs.Events.{answer_outcome}
use Rattle.page_tasks.specs.declared.task.Task.TheVariants as task
use Rattle.page_tasks.specs.Seen.{answered_text}
use Rattle.page_tasks.specs.Tasks.{TaskIn, CanBeTold}
use Rattle.page_tasks.specs.Falling.{CanGiveBack}
use Rattle.page_tasks.proofs.Answering.{without_text}
use Rattle.page_tasks.proofs.telling.tell.Goals as goal

pub tell_invocation-requires-clause-answer : goal.tell_invocation-requires-clause-answer
tell_invocation-requires-clause-answer g c = c.requires.answer

pub tell_invocation-requires-clause-height : goal.tell_invocation-requires-clause-height
tell_invocation-requires-clause-height g c = c.requires.height

pub tell_load-requires-clause-answer : goal.tell_load-requires-clause-answer
tell_load-requires-clause-answer g c = c.requires.answer

pub tell_load-requires-clause-height : goal.tell_load-requires-clause-height
tell_load-requires-clause-height g c = c.requires.height

pub tell_expansion-requires-clause-waits : goal.tell_expansion-requires-clause-waits
tell_expansion-requires-clause-waits g c = subst CanBeTold c.in-Expansion.is c.requires.waits

pub tell_expansion-requires-clause-back : goal.tell_expansion-requires-clause-back
tell_expansion-requires-clause-back g c = subst (CanGiveBack c.args.left.now) c.in-Expansion.is c.requires.back

pub tell_invocation-requires-clause-of : goal.tell_invocation-requires-clause-of
tell_invocation-requires-clause-of g c = subst (TaskIn c.args.store.now) c.in-Invocation.is c.requires.of

pub tell_invocation-requires-clause-back : goal.tell_invocation-requires-clause-back
tell_invocation-requires-clause-back g c = subst (CanGiveBack c.args.left.now) c.in-Invocation.is c.requires.back

pub tell_load-requires-clause-of : goal.tell_load-requires-clause-of
tell_load-requires-clause-of g c = subst (TaskIn c.args.store.now) c.in-Load.is c.requires.of

pub tell_load-requires-clause-back : goal.tell_load-requires-clause-back
tell_load-requires-clause-back g c = subst (CanGiveBack c.args.left.now) c.in-Load.is c.requires.back

pub returns-in-Expansion-clause-halts : goal.returns-in-Expansion-clause-halts
returns-in-Expansion-clause-halts g c = rw c.in-Expansion.is (c.tell_expansion.ensures.halts c.args.store.now c.args.turns.now)

pub returns-in-Expansion-clause-goes : goal.returns-in-Expansion-clause-goes
returns-in-Expansion-clause-goes g c =
    let told : List ℕ → Halted → Type 0 = λ text x. (n : ℕ) → c.args.turns.now ≡ c.args.turns.now + n → (a : Answer) → text ≡ text_of a
    → ToldFrom c.args.store.now c.args.left.now (task.Expansion c.in-Expansion.expander) a (answer_outcome c.args.store.now.texts c.args.answer) c.args.height c.args.store.now c.tell_expansion.new.left n x in
    rw c.in-Expansion.is (subst (λ (text : List ℕ). IfOk c.tell_expansion.result (told text)) c.text_answered-text.ensures (c.tell_expansion.ensures.goes c.args.store.now c.args.turns.now c.args.turns.now c.args.height (answer_outcome c.args.store.now.texts c.args.answer)))

pub returns-in-Expansion-clause-falls : goal.returns-in-Expansion-clause-falls
returns-in-Expansion-clause-falls g c = rw c.in-Expansion.is c.tell_expansion.ensures.falls

pub returns-in-Invocation-clause-halts : goal.returns-in-Invocation-clause-halts
returns-in-Invocation-clause-halts g c = rw c.in-Invocation.is c.tell_invocation.ensures.halts

pub returns-in-Invocation-clause-goes : goal.returns-in-Invocation-clause-goes
returns-in-Invocation-clause-goes g c = rw c.in-Invocation.is (without_text (task.Invocation c.in-Invocation.machine) c.args.left.now c.tell_invocation.new.store c.tell_invocation.new.left c.tell_invocation.result c.args.store.now c.args.turns.now c.tell_invocation.new.turns (answered_text c.args.answer) (answer_outcome c.args.store.now.texts c.args.answer) c.args.height c.tell_invocation.ensures.goes)

pub returns-in-Invocation-clause-falls : goal.returns-in-Invocation-clause-falls
returns-in-Invocation-clause-falls g c = rw c.in-Invocation.is c.tell_invocation.ensures.falls

pub returns-in-Load-clause-halts : goal.returns-in-Load-clause-halts
returns-in-Load-clause-halts g c = rw c.in-Load.is c.tell_load.ensures.halts

pub returns-in-Load-clause-goes : goal.returns-in-Load-clause-goes
returns-in-Load-clause-goes g c = rw c.in-Load.is (without_text (task.Load c.in-Load.begun c.in-Load.machine) c.args.left.now c.tell_load.new.store c.tell_load.new.left c.tell_load.result c.args.store.now c.args.turns.now c.tell_load.new.turns (answered_text c.args.answer) (answer_outcome c.args.store.now.texts c.args.answer) c.args.height c.tell_load.ensures.goes)

pub returns-in-Load-clause-falls : goal.returns-in-Load-clause-falls
returns-in-Load-clause-falls g c = rw c.in-Load.is c.tell_load.ensures.falls
