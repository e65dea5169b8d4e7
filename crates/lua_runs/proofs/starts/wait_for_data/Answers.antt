use Rattle.std.proofs.Common.{ap, sym, subst, List}
use Rattle.lua_modules.specs.LuaStackDeclaredFrameFrame.{Frame}
use Rattle.lua_modules.specs.LuaStackOf.{FramesOf}
use Rattle.lua_modules.specs.LuaStackSeen.{frames_seen}
use Rattle.lua_runs.proofs.Parts.{with_frames_of}
use Rattle.lua_runs.proofs.Starting.{only}
use Rattle.lua_runs.proofs.starts.wait_for_data.Goals as goal

pub returns-clause-of : goal.returns-clause-of
returns-clause-of c =
    with_frames_of c.args.store.now c.args.state.now c.push.new.self c.requires
    (subst (FramesOf c.args.store.now) (sym (only c.push.new.self _ _ c.in_ok-push.ensures.ok c.clear.ensures)) (tt, tt))

pub returns-clause-frames : goal.returns-clause-frames
returns-clause-frames c = ap (λ (fs : List Frame). frames_seen c.args.store.now.texts fs) (only c.push.new.self _ _ c.in_ok-push.ensures.ok c.clear.ensures)
