use Rattle.std.proofs.Common.{ap}
use Rattle.lua_arms.specs.LuaSlotsPoints.{Move}
use Rattle.lua_code.specs.LuaSlotsEnact.{enact}
use Rattle.lua_operators.proofs.dispatch.compare_or_calculate.Goals as goal

pub returns-in_ok-paid-in-Less-clause-move_ : goal.returns-in_ok-paid-in-Less-clause-move_
returns-in_ok-paid-in-Less-clause-move_ c = λ s in_progress tally h. rw c.in-Less.is (c.in_ok-paid-in-Less.ensures.move_ s in_progress tally h)

pub returns-in_ok-paid-in-Greater-clause-move_ : goal.returns-in_ok-paid-in-Greater-clause-move_
returns-in_ok-paid-in-Greater-clause-move_ c = λ s in_progress tally h. rw c.in-Greater.is (c.in_ok-paid-in-Greater.ensures.move_ s in_progress tally h)

pub returns-in_ok-paid-in-AtMost-clause-move_ : goal.returns-in_ok-paid-in-AtMost-clause-move_
returns-in_ok-paid-in-AtMost-clause-move_ c = λ s in_progress tally h. rw c.in-AtMost.is (c.in_ok-paid-in-AtMost.ensures.move_ s in_progress tally h)

pub returns-in_ok-paid-in-AtLeast-clause-move_ : goal.returns-in_ok-paid-in-AtLeast-clause-move_
returns-in_ok-paid-in-AtLeast-clause-move_ c = λ s in_progress tally h. rw c.in-AtLeast.is (c.in_ok-paid-in-AtLeast.ensures.move_ s in_progress tally h)

pub returns-in_ok-step-in-Equal-clause-move_ : goal.returns-in_ok-step-in-Equal-clause-move_
returns-in_ok-step-in-Equal-clause-move_ c = λ s in_progress tally h.
    rw c.in-Equal.is (ap (λ (m : Move). enact m (record { left = c.args.left.now; in_progress = in_progress; tally = tally })) (c.in_ok-step-in-Equal.ensures.move_ s h))

pub returns-in_ok-step-in-Unequal-clause-move_ : goal.returns-in_ok-step-in-Unequal-clause-move_
returns-in_ok-step-in-Unequal-clause-move_ c = λ s in_progress tally h.
    rw c.in-Unequal.is (ap (λ (m : Move). enact m (record { left = c.args.left.now; in_progress = in_progress; tally = tally })) (c.in_ok-step-in-Unequal.ensures.move_ s h))

pub returns-in_ok-step-in-Calculate-clause-move_ : goal.returns-in_ok-step-in-Calculate-clause-move_
returns-in_ok-step-in-Calculate-clause-move_ c = λ s in_progress tally h.
    rw c.in-Calculate.is (ap (λ (m : Move). enact m (record { left = c.args.left.now; in_progress = in_progress; tally = tally })) (c.in_ok-step-in-Calculate.ensures.move_ s h))
