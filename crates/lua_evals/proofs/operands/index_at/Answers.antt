use Rattle.std.proofs.lemmas.Result.{IfOk-weaker}
use Rattle.std.proofs.Common.{◌∙◌, refl, sym, ap, ◌∷◌, List}
use Rattle.lua_operators.specs.LuaSlotsPoints.{First}
use Rattle.lua_state.specs.LuaStackDeclaredFrameFrame.{Frame}
use Rattle.lua_operators.specs.LuaStackSeen.{frames_seen}
use Rattle.lua_state.specs.LuaArmsSteps.{step_seen}
use Rattle.lua_state.specs.Seen.{slots_of, frames_of}
use Rattle.lua_evals.proofs.Ends.{with_frames_of, stepped}
use Rattle.lua_evals.proofs.operands.index_at.Goals as goal

pub finish-requires-clause-state : goal.finish-requires-clause-state
finish-requires-clause-state c = rw c.in_ok-push.ensures.ok (with_frames_of c.args.store.now c.args.state.now _ c.requires.state (tt, c.requires.state.frames))

pub returns : goal.returns
returns c =
    IfOk-weaker c.finish.result _ _ (λ r e. stepped c.args.store.now c.finish.new.store c.args.state.now c.push.new.self c.args.left.now c.finish.new.left _ c.index-step.result _
    (c.index-step.ensures.move_ (First ∷ frames_of c.args.store.now c.args.state.now) (slots_of c.args.store.now c.args.state.now) refl refl
    ∙ ap (λ (fs : List Frame). step_seen c.args.store.now c.index-step.result (frames_seen c.args.store.now.texts fs) (slots_of c.args.store.now c.args.state.now)) (sym c.in_ok-push.ensures.ok))
    e) c.finish.ensures.makes
