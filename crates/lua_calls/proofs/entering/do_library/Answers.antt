use Rattle.std.proofs.lemmas.Result.{IfOk-weaker}
use Rattle.std.proofs.Common.{◌∙◌, ap, sym, ◌∷◌, List}
use Rattle.lua_code.specs.LuaSlotsLibraries.{page_alone, does}
use Rattle.lua_modules.specs.LuaSlotsPoints.{LibraryEnd}
use Rattle.lua_modules.specs.LuaStackDeclaredFrameFrame.{Frame}
use Rattle.lua_modules.specs.LuaStackSeen.{values_seen, frames_seen}
use Rattle.lua_acts.proofs.Parts.{with_frames_of}
use Rattle.lua_modules.specs.LuaStateSeen.{slots_of, frames_of}
use Rattle.lua_modules.specs.LuaStateWorlds.{world_seen}
use Rattle.lua_calls.specs.Table.{act_seen}
use Rattle.lua_calls.proofs.Enters.{late_above}
use Rattle.lua_calls.proofs.entering.do_library.Goals as goal

pub call_act-requires-clause-state : goal.call_act-requires-clause-state
call_act-requires-clause-state c = rw c.in_ok-push.ensures.ok (with_frames_of c.args.store.now c.args.state.now _ c.requires.state (tt, c.requires.state.frames))

pub returns : goal.returns
returns c =
    let s = c.args.store.now in
    let m = c.args.state.now in
    let world = world_seen m.codes.world in
    let args = values_seen s.texts c.args.arguments in
    IfOk-weaker c.call_act.result _ _ (λ r e. late_above s c.call_act.new.store m c.call_act.new.state c.push.new.self c.args.left.now c.call_act.new.left _ _ r
    (ap (λ form. does world form args c.args.line (LibraryEnd ∷ frames_of s m) (slots_of s m)) (c.act_of-act.ensures (page_alone world) args (slots_of s m).heap (slots_of s m).frames)
    ∙ ap (λ (fs : List Frame). does world (act_seen (page_alone world) c.act_of-act.result args (slots_of s m).heap (slots_of s m).frames) args c.args.line (frames_seen s.texts fs) (slots_of s m)) (sym c.in_ok-push.ensures.ok))
    e) c.call_act.ensures
