use Rattle.std.proofs.Common.{◌≡◌, ℕ, ◌+◌}
use Rattle.page_ground.specs.LuaMeaningQuestions.{Answer}
use Rattle.lua_machine.specs.Events.{answer_outcome}
use Rattle.page_tasks.specs.declared.task.Task.TheVariants as task
use Rattle.page_tasks.specs.Going.{Halts, GoesOn, ToldFrom}
use Rattle.page_tasks.proofs.Passing.{if_ok}
use Rattle.page_tasks.proofs.Answering.{load_told_back, load_told_halts, load_told_goes, calls_fit}
use Rattle.page_tasks.proofs.telling.tell_load.Goals as goal

pub answer_machine-requires-clause-answer : goal.answer_machine-requires-clause-answer
answer_machine-requires-clause-answer g c = c.requires.answer

pub answer_machine-requires-clause-of : goal.answer_machine-requires-clause-of
answer_machine-requires-clause-of g c = c.requires.of.0

pub answer_machine-requires-clause-height : goal.answer_machine-requires-clause-height
answer_machine-requires-clause-height g c = calls_fit c.args.machine.state.calls c.args.left.now.calls c.args.height c.requires.back.calls c.requires.height

pub go_load-requires-clause-of : goal.go_load-requires-clause-of
go_load-requires-clause-of g c = ((rw c.in-Ok.is at c.answer_machine.ensures.of), c.requires.of.1)

pub go_load-requires-clause-back : goal.go_load-requires-clause-back
go_load-requires-clause-back g c =
    load_told_back c.args.store.now c.args.machine (answer_outcome c.args.store.now.texts c.args.answer) c.args.height c.answer_machine.new.store c.answer_machine.new.machine c.requires.of.0 (rw c.in-Ok.is at c.answer_machine.ensures.answers) c.args.begun c.args.left.now c.requires.back

pub returns-in-Ok-clause-halts : goal.returns-in-Ok-clause-halts
returns-in-Ok-clause-halts g c =
    if_ok (Halts c.answer_machine.new.store c.args.left.now c.args.turns.now (task.Load c.args.begun c.answer_machine.new.machine) c.go_load.new.store c.go_load.new.left c.go_load.new.turns) (Halts c.args.store.now c.args.left.now c.args.turns.now (task.Load c.args.begun c.args.machine) c.go_load.new.store c.go_load.new.left c.go_load.new.turns) c.go_load.result
    (load_told_halts c.args.store.now c.args.machine (answer_outcome c.args.store.now.texts c.args.answer) c.args.height c.answer_machine.new.store c.answer_machine.new.machine c.requires.of.0 (rw c.in-Ok.is at c.answer_machine.ensures.answers) c.args.begun c.args.left.now c.go_load.new.left c.args.turns.now c.go_load.new.turns c.go_load.new.store) c.go_load.ensures.halts

pub returns-in-Ok-clause-goes : goal.returns-in-Ok-clause-goes
returns-in-Ok-clause-goes g c =
    if_ok (λ x. (n : ℕ) → c.go_load.new.turns ≡ c.args.turns.now + n → GoesOn c.answer_machine.new.store c.args.left.now (task.Load c.args.begun c.answer_machine.new.machine) c.go_load.new.store c.go_load.new.left n x)
    (λ x. (n : ℕ) → c.go_load.new.turns ≡ c.args.turns.now + n → (a : Answer) → ToldFrom c.args.store.now c.args.left.now (task.Load c.args.begun c.args.machine) a (answer_outcome c.args.store.now.texts c.args.answer) c.args.height c.go_load.new.store c.go_load.new.left n x) c.go_load.result
    (λ x goes n e a. load_told_goes c.args.store.now c.args.machine (answer_outcome c.args.store.now.texts c.args.answer) c.args.height c.answer_machine.new.store c.answer_machine.new.machine c.requires.of.0 (rw c.in-Ok.is at c.answer_machine.ensures.answers) c.args.begun c.args.left.now c.go_load.new.left n c.go_load.new.store x a (goes n e)) c.go_load.ensures.goes

pub returns-in-Ok-clause-falls : goal.returns-in-Ok-clause-falls
returns-in-Ok-clause-falls g c = c.go_load.ensures.falls
