use Rattle.std.proofs.Common.{ap}
use Rattle.lua_arms.specs.LuaSlotsPoints.{Move}
use Rattle.lua_arms.specs.LuaSlotsSlots.{Slots}
use Rattle.lua_code.specs.LuaSlotsEnact.{enact}
use Rattle.lua_arms.specs.LuaStackSeen.{frames_seen}
use Rattle.lua_arms.specs.Steps.{step_seen}
use Rattle.lua_operators.proofs.Charges.{at_heap}
use Rattle.lua_operators.proofs.dispatch.apply.Goals as goal

pub returns-in-Not-clause-of : goal.returns-in-Not-clause-of
returns-in-Not-clause-of c = (c.answer.ensures.of c.args.store.now, c.requires.frames)

pub returns-in_ok-step-in-Minus-clause-move_ : goal.returns-in_ok-step-in-Minus-clause-move_
returns-in_ok-step-in-Minus-clause-move_ c = λ s in_progress tally h.
    rw c.in-Minus.is
    (at_heap c.args.store.now.heap s _ (λ (z : Slots). enact (step_seen c.args.store.now c.in_ok-step-in-Minus.step (frames_seen c.args.store.now.texts c.negate.new.frames) z) (record { left = c.args.left.now; in_progress = in_progress; tally = tally }))
    (ap (λ (m : Move). enact m (record { left = c.args.left.now; in_progress = in_progress; tally = tally })) (c.in_ok-step-in-Minus.ensures.move_ s h)) h)
