use Rattle.std.proofs.Common.{◌∙◌, ap, sym, subst, ◌∷◌, List}
use Rattle.lua_code.specs.WkBaseDeclaredTitleTitle.{Title}
use Rattle.lua_code.specs.LuaMeaningActs.{Running}
use Rattle.lua_code.specs.LuaMeaningPending.{ModuleWaits}
use Rattle.lua_code.specs.LuaSlotsModules.{with_module}
use Rattle.lua_state.specs.LuaSlotsPoints.{Waits}
use Rattle.lua_state.specs.LuaStackDeclaredFrameFrame.{Frame}
use Rattle.lua_state.specs.LuaStackSeen.{frames_seen}
use Rattle.lua_state.specs.LuaStackOf.{FramesOf}
use Rattle.lua_state.specs.declared.state.State.{State}
use Rattle.lua_state.specs.Seen.{slots_of, frames_of}
use Rattle.lua_modules.proofs.Parts.{with_frames_of}
use Rattle.lua_modules.proofs.requiring.enter_module.Goals as goal

pub returns-clause-of : goal.returns-clause-of
returns-clause-of c =
    with_frames_of c.args.store.now c.put_progress.new.state c.push.new.self c.in_ok-put_progress.ensures.of
    (subst (FramesOf c.args.store.now) (sym c.in_ok-push.ensures.ok) (tt, c.in_ok-put_progress.ensures.of.frames))

pub returns-clause-same : goal.returns-clause-same
returns-clause-same c = ap (λ (x : State). let y : State = record x { frames = c.push.new.self } in y) c.in_ok-put_progress.ensures.same

pub returns-clause-slots : goal.returns-clause-slots
returns-clause-slots c = c.in_ok-put_progress.ensures.slots ∙ ap (λ (t : Title). with_module t Running (slots_of c.args.store.now c.args.state.now)) c.in_ok-running.ensures

pub returns-clause-frames : goal.returns-clause-frames
returns-clause-frames c =
    ap (λ (fs : List Frame). frames_seen c.args.store.now.texts fs) c.in_ok-push.ensures.ok
    ∙ ap (λ (t : Title). Waits (ModuleWaits t) c.args.line ∷ frames_of c.args.store.now c.put_progress.new.state) c.in_ok-waited.ensures
    ∙ ap (λ (x : State). Waits (ModuleWaits c.args.title.now) c.args.line ∷ frames_of c.args.store.now x) c.in_ok-put_progress.ensures.same
