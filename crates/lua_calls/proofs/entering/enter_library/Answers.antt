use Rattle.std.proofs.lemmas.Result.{IfOk-weaker}
use Rattle.std.proofs.Common.{refl, subst}
use Rattle.lua_tables.specs.LuaMeaningLibraries.{form}
use Rattle.std.specs.Prelude.{◌∷◌}
use Rattle.lua_code.specs.LuaSlotsLibraries.{page_alone, does}
use Rattle.lua_modules.specs.LuaSlotsPoints.{LibraryEnd}
use Rattle.lua_modules.specs.LuaStackSeen.{values_seen}
use Rattle.lua_modules.specs.LuaStateCharges.{EntersCall}
use Rattle.lua_modules.specs.LuaStateDeclaredStateState.{State}
use Rattle.lua_modules.specs.LuaStateSeen.{slots_of, frames_of}
use Rattle.lua_modules.specs.LuaStateWorlds.{world_seen}
use Rattle.lua_calls.proofs.Enters.{calls_of, entered, no_call}
use Rattle.lua_calls.proofs.entering.enter_library.Goals as goal

pub do_library-requires-clause-state : goal.do_library-requires-clause-state
do_library-requires-clause-state g c = calls_of c.args.store.now c.args.state.now c.enter_call.new.state c.in_ok-entered.ensures.same c.requires.state

pub returns-then-not-entered : goal.returns-then-not-entered
returns-then-not-entered g c =
    no_call c.args.store.now c.args.state.now c.enter_call.new.state c.args.left.now c.enter_call.new.left c.args.turns.now _ c.in_ok-entered.ensures.same c.requires.state
    (subst (EntersCall c.args.state.now c.args.left.now c.enter_call.new.state c.enter_call.new.left) c.if-not-entered.true c.in_ok-entered.ensures.enters)

pub returns : goal.returns
returns g c =
    let s = c.args.store.now in
    let args = values_seen s.texts c.args.arguments in
    IfOk-weaker c.do_library.result _ _ (λ r e. entered s c.do_library.new.store c.args.state.now c.enter_call.new.state c.do_library.new.state c.args.left.now c.enter_call.new.left c.do_library.new.left c.args.turns.now c.tick.new.self r c.in_ok-entered.ensures.same
    (λ (m : State). does (world_seen m.codes.world) (form (page_alone (world_seen m.codes.world)) c.args.which args (slots_of s m).heap (slots_of s m).frames) args c.args.line (LibraryEnd ∷ frames_of s m) (slots_of s m))
    (λ calls height. refl) (subst (EntersCall c.args.state.now c.args.left.now c.enter_call.new.state c.enter_call.new.left) c.if-not-entered.false c.in_ok-entered.ensures.enters) c.tick.ensures e) c.do_library.ensures
