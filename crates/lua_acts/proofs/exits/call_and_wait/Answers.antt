use Rattle.std.proofs.Common.{◌∙◌, refl, sym, ap, ◌∷◌, List}
use Rattle.lua_state.specs.LuaSlotsPoints.{Waits}
use Rattle.lua_state.specs.LuaStackDeclaredFrameFrame.{Frame}
use Rattle.lua_state.specs.LuaStackSeen.{frames_seen, pending_seen}
use Rattle.lua_state.specs.LuaArmsSteps.{step_seen}
use Rattle.lua_state.specs.Seen.{slots_of, frames_of}
use Rattle.lua_acts.proofs.Parts.{with_frames_of, stepped}
use Rattle.lua_acts.proofs.exits.call_and_wait.Goals as goal

pub finish-requires-clause-state : goal.finish-requires-clause-state
finish-requires-clause-state c = rw c.in_ok-push.ensures.ok (with_frames_of c.args.store.now c.args.state.now _ c.requires.state (c.requires.pending, c.requires.state.frames))

pub returns : goal.returns
returns c =
    stepped c.args.store.now c.finish.new.store c.args.state.now c.push.new.self c.args.left.now c.finish.new.left _ c.in_ok-step.step _
    (c.in_ok-step.ensures.move_ (Waits (pending_seen c.args.store.now.texts c.args.pending) c.args.line ∷ frames_of c.args.store.now c.args.state.now) (slots_of c.args.store.now c.args.state.now) refl
    ∙ ap (λ (fs : List Frame). step_seen c.args.store.now c.in_ok-step.step (frames_seen c.args.store.now.texts fs) (slots_of c.args.store.now c.args.state.now)) (sym c.in_ok-push.ensures.ok))
    c.in_ok-turn.ensures.makes
