use Rattle.std.proofs.Common.{◌∙◌}
use Rattle.lua_stack.proofs.Raises.{placed}
use Rattle.lua_stack.proofs.raising.raise_text.Goals as goal

pub returns-in_ok-raising-in-None-clause-move_ : goal.returns-in_ok-raising-in-None-clause-move_
returns-in_ok-raising-in-None-clause-move_ c = λ frames of s in_progress tally.
    rw c.in-None.is (c.in_ok-raising-in-None.ensures.move_ frames of s (record { left = c.args.left.now; in_progress = in_progress; tally = tally }))

pub returns-in_ok-raising-in-Some-clause-move_ : goal.returns-in_ok-raising-in-Some-clause-move_
returns-in_ok-raising-in-Some-clause-move_ c = λ frames of s in_progress tally.
    placed c.args.store.now c.raise_paid.new.store frames s (record { left = c.args.left.now; in_progress = in_progress; tally = tally }) (record { left = c.raise_paid.new.left; in_progress = in_progress; tally = tally })
    c.in_ok-raising-in-Some.raising c.as_slice.result.now c.args.message.now c.args.place c.in-Some.level c.in-Some.is (c.as_slice.ensures.value ∙ c.in_ok-text-in-Some.ensures) (c.in_ok-raising-in-Some.ensures.move_ frames of s in_progress tally)
