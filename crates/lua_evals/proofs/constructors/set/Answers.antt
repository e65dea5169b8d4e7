use Rattle.std.proofs.Common.{◌∙◌, sym, ap, refl, ◌∷◌, List}
use Rattle.lua_operators.specs.LuaSlotsSlots.{with_heap}
use Rattle.lua_state.specs.LuaStackDeclaredFrameFrame.{Frame}
use Rattle.lua_operators.specs.LuaStackDeclaredFrameFrameTheVariants as frame
use Rattle.lua_operators.specs.LuaStackSeen.{frames_seen}
use Rattle.lua_operators.proofs.LuaStackStay.{frames_later, frames_as}
use Rattle.lua_state.specs.LuaArmsPaid.{paid_seen}
use Rattle.lua_state.specs.Seen.{slots_of, funds_of}
use Rattle.lua_state.proofs.Staying.{state_later}
use Rattle.lua_evals.proofs.Ends.{with_frames_of, paid_arm}
use Rattle.lua_evals.proofs.constructors.set.Goals as goal

pub finish_paid-requires-clause-state : goal.finish_paid-requires-clause-state
finish_paid-requires-clause-state c = rw c.in_ok-push.ensures.ok (with_frames_of c.set_entry.new.store c.args.state.now _ (state_later c.args.store.now c.set_entry.new.store c.in_ok-paid.ensures.later c.args.state.now c.requires.state)
    (frames_later c.args.store.now c.set_entry.new.store c.in_ok-paid.ensures.later (frame.Constructor c.args.frame ∷ c.args.state.now.frames) (c.requires.frame, c.requires.state.frames)))

pub returns : goal.returns
returns c =
    paid_arm c.args.store.now c.set_entry.new.store c.finish_paid.new.store c.args.state.now c.push.new.self c.args.left.now c.set_entry.new.left c.finish_paid.new.left _ c.in_ok-paid.paid _ c.requires.state
    c.in_ok-paid.ensures.later c.in_ok-paid.ensures.still
    (λ told i.
    c.in_ok-paid.ensures.move_ (frames_seen c.args.store.now.texts (frame.Constructor c.args.frame ∷ c.args.state.now.frames)) (slots_of c.args.store.now c.args.state.now) _ _ refl
    ∙ ap (λ fs. paid_seen c.set_entry.new.store c.in_ok-paid.paid fs (with_heap c.set_entry.new.store.heap (slots_of c.args.store.now c.args.state.now)) (funds_of c.set_entry.new.left c.args.state.now told i))
    (sym (frames_as c.args.store.now c.set_entry.new.store c.in_ok-paid.ensures.later (frame.Constructor c.args.frame ∷ c.args.state.now.frames) (c.requires.frame, c.requires.state.frames)))
    ∙ ap (λ (fs : List Frame). paid_seen c.set_entry.new.store c.in_ok-paid.paid (frames_seen c.set_entry.new.store.texts fs) (with_heap c.set_entry.new.store.heap (slots_of c.args.store.now c.args.state.now)) (funds_of c.set_entry.new.left c.args.state.now told i))
    (sym c.in_ok-push.ensures.ok))
    c.in_ok-turn.ensures.state c.in_ok-turn.ensures.later c.in_ok-turn.ensures.heap c.in_ok-turn.ensures.makes
