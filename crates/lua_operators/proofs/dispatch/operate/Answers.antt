use Rattle.std.proofs.Common.{refl}
use Rattle.lua_arms.specs.LuaSlotsSlots.{Slots}
use Rattle.lua_arms.specs.LuaStackSeen.{frames_seen}
use Rattle.lua_arms.specs.Paid.{paid_seen}
use Rattle.lua_operators.proofs.Charges.{at_heap, if_spent}
use Rattle.lua_operators.proofs.dispatch.operate.Goals as goal

pub returns-then-is_concatenation-clause-move_ : goal.returns-then-is_concatenation-clause-move_
returns-then-is_concatenation-clause-move_ c = λ s in_progress tally h. rw (c.if-is_concatenation.ensures.0 refl) (c.in_ok-paid.ensures.move_ s in_progress tally h)

pub returns-clause-still : goal.returns-clause-still
returns-clause-still c = if_spent _ _ refl

pub returns-clause-move_ : goal.returns-clause-move_
returns-clause-move_ c = λ s in_progress tally h.
    at_heap c.args.store.now.heap s _ (λ (z : Slots). paid_seen c.args.store.now c.in_ok-paid-2.paid (frames_seen c.args.store.now.texts c.compare_or_calculate.new.frames) z (record { left = c.compare_or_calculate.new.left; in_progress = in_progress; tally = tally }))
    (c.in_ok-paid-2.ensures.move_ s in_progress tally h) h
