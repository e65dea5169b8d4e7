use Rattle.std.proofs.Common.{refl, ap}
use Rattle.mw_frames.proofs.LuaStoreLater.{later-itself}
use Rattle.lua_arms.specs.Steps.{step_seen}
use Rattle.lua_state.specs.Seen.{slots_of, frames_of}
use Rattle.lua_state.proofs.Making.{stands}
use Rattle.lua_state.proofs.ending.finish.Goals as goal

pub returns-in-On-clause-makes : goal.returns-in-On-clause-makes
returns-in-On-clause-makes c =
    let s = c.args.store.now in
    let m = c.args.state.now in
    let fs = frames_of s m in
    let slots = slots_of s m in
    stands s s m m c.args.left.now (step_seen s c.args.step fs slots) c.in-On.focus c.requires.state refl refl refl (later-itself s) (rw c.in-On.is at c.requires.step) (ap (λ st. step_seen s st fs slots) c.in-On.is)
