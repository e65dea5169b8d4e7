use Rattle.lua_arms.proofs.LuaStackStay.{frames_later, frames_as}
use Rattle.lua_operators.proofs.Joins.{text_is, joined_at}
use Rattle.lua_operators.proofs.concatenation.concatenate.Goals as goal

pub returns-clause-of : goal.returns-clause-of
returns-clause-of c = (c.in_ok-paid-in-Some-2.ensures.of, frames_later c.args.store.now c.join.new.store c.in_ok-paid-in-Some-2.ensures.later c.args.frames.now c.requires.frames)

pub returns-clause-move_ : goal.returns-clause-move_
returns-clause-move_ c = λ s in_progress tally h.
    joined_at c.args.store.now c.join.new.store _ _ c.as_slice.result.now c.as_slice-in-Some-2.result.now c.args.line c.args.frames.now s _ _ _
    (text_is _ c.in-Some.a _ _ c.in_ok-text_in.ensures c.in-Some.is c.as_slice.ensures) (text_is _ c.in-Some-2.b _ _ c.in_ok-text_in-in-Some.ensures c.in-Some-2.is c.as_slice-in-Some-2.ensures)
    (frames_as c.args.store.now c.join.new.store c.in_ok-paid-in-Some-2.ensures.later c.args.frames.now c.requires.frames) h c.in_ok-paid-in-Some-2.ensures.heap
    (c.in_ok-paid-in-Some-2.ensures.move_ _ s in_progress tally)
