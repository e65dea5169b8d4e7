use Rattle.std.proofs.Common.{◌≡◌, ℕ, ◌+◌}
use Rattle.page_ground.specs.LuaMeaningQuestions.{Answer}
use Rattle.page_ground.specs.PageMeaningTasks.{text_of}
use Rattle.page_tasks.specs.declared.task.Task.TheVariants as task
use Rattle.page_tasks.specs.Going.{Halts, GoesOn, ToldFrom}
use Rattle.page_tasks.specs.Falling.{Falls}
use Rattle.page_tasks.proofs.Passing.{if_ok}
use Rattle.page_tasks.proofs.Expanding.{told_halts, told_goes, told_falls, told_back}
use Rattle.page_tasks.proofs.telling.tell_expansion.Goals as goal

pub answer_expander-requires : goal.answer_expander-requires
answer_expander-requires c = c.requires.waits

pub go_expansion-requires-clause-can : goal.go_expansion-requires-clause-can
go_expansion-requires-clause-can c = (rw c.in-Ok.is at c.answer_expander.ensures.can)

pub go_expansion-requires-clause-back : goal.go_expansion-requires-clause-back
go_expansion-requires-clause-back c = told_back c.args.expander c.args.left.now c.args.text c.answer_expander.new.expander c.answer_expander.new.left (rw c.in-Ok.is at c.answer_expander.ensures.answers) c.requires.back

pub returns-in-Ok-clause-halts : goal.returns-in-Ok-clause-halts
returns-in-Ok-clause-halts c = λ s k.
    if_ok (Halts s c.answer_expander.new.left k (task.Expansion c.answer_expander.new.expander) s c.go_expansion.new.left k) (Halts s c.args.left.now k (task.Expansion c.args.expander) s c.go_expansion.new.left k) c.go_expansion.result
    (told_halts c.args.expander c.args.left.now c.args.text c.answer_expander.new.expander c.answer_expander.new.left (rw c.in-Ok.is at c.answer_expander.ensures.answers) s k c.go_expansion.new.left) (c.go_expansion.ensures.halts s k)

pub returns-in-Ok-clause-goes : goal.returns-in-Ok-clause-goes
returns-in-Ok-clause-goes c = λ s k k' high o.
    if_ok (λ x. (n : ℕ) → k' ≡ k + n → GoesOn s c.answer_expander.new.left (task.Expansion c.answer_expander.new.expander) s c.go_expansion.new.left n x)
    (λ x. (n : ℕ) → k' ≡ k + n → (a : Answer) → c.args.text ≡ text_of a → ToldFrom s c.args.left.now (task.Expansion c.args.expander) a o high s c.go_expansion.new.left n x) c.go_expansion.result
    (λ x goes n e a is. told_goes c.args.expander c.args.left.now c.args.text c.answer_expander.new.expander c.answer_expander.new.left (rw c.in-Ok.is at c.answer_expander.ensures.answers) s high n a o c.go_expansion.new.left x is (goes n e)) (c.go_expansion.ensures.goes s k k')

pub returns-in-Ok-clause-falls : goal.returns-in-Ok-clause-falls
returns-in-Ok-clause-falls c =
    if_ok (Falls c.answer_expander.new.left (task.Expansion c.answer_expander.new.expander) c.go_expansion.new.left) (Falls c.args.left.now (task.Expansion c.args.expander) c.go_expansion.new.left) c.go_expansion.result
    (told_falls c.args.expander c.args.left.now c.args.text c.answer_expander.new.expander c.answer_expander.new.left (rw c.in-Ok.is at c.answer_expander.ensures.answers) c.go_expansion.new.left) c.go_expansion.ensures.falls
