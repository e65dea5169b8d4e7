use Rattle.std.proofs.Common.{◌∙◌, ◌∷◌, [], refl, sym, ap}
use Rattle.lua_loops.specs.PageRunOutcome.{Goes}
use Rattle.lua_code.specs.Seen.{place_seen}
use Rattle.lua_operators.specs.LuaSlotsPoints.{PlaceS, SetsNext, Gives, Sets}
use Rattle.lua_operators.specs.LuaSlotsSlots.{write_place}
use Rattle.lua_strides.proofs.LuaInPlaceStatements.{free, free_then}
use Rattle.lua_operators.specs.LuaStoreSeen.{seen}
use Rattle.lua_strides.specs.LuaStackDeclaredFocusFocusTheVariants as focus
use Rattle.lua_strides.specs.LuaStackDeclaredValuesGivenTheVariants as given
use Rattle.lua_operators.proofs.LuaStackStay.{frames_later}
use Rattle.lua_loops.proofs.Beginning.{functions_stay, opened_slots}
use Rattle.lua_loops.specs.LuaStateSeen.{slots_of, frames_of}
use Rattle.lua_loops.proofs.LuaStateStaying.{frames_stay}
use Rattle.lua_strides.proofs.Written.{writes_at}
use Rattle.lua_turns.proofs.Following.{follows_free}
use Rattle.lua_turns.proofs.setting.set_variable.Goals as goal

pub write-requires-clause-registers : goal.write-requires-clause-registers
write-requires-clause-registers c = c.requires.state.regs

pub write-requires-clause-closure : goal.write-requires-clause-closure
write-requires-clause-closure c = c.running_closure-closure.ensures.of c.args.store.now c.requires.state.functions

pub returns : goal.returns
returns c = λ l k.
    let s = c.args.store.now in
    let u = c.write.new.store in
    let m = c.args.state.now in
    let x = slots_of s m in
    let fs = frames_of s m in
    let v = seen s.texts c.args.value in
    let p = place_seen c.args.place in
    let z = write_place x p v in
    let later = c.write.ensures.later in
    let kept = functions_stay s u m c.requires.state later in
    let at = Sets ((PlaceS p, v) ∷ []) fs in
    follows_free s u m m.frames c.write.new.regs m.functions at (Gives (Goes []) fs) z (focus.Gives (given.Many [])) c.requires.state later l k
    (frames_later s u later m.frames c.requires.state.frames) c.write.ensures.of kept.0 tt
    (λ world. free_then world (free world at x (Gives (Goes []) (SetsNext [] ∷ fs)) z refl)
    (free_then world (free world (Gives (Goes []) (SetsNext [] ∷ fs)) z (Sets [] fs) z refl) (free world (Sets [] fs) z (Gives (Goes []) fs) z refl)))
    (ap (λ gs. Gives (Goes []) gs) (sym (frames_stay s u later m c.requires.state)))
    (sym (opened_slots s u m m.frames c.write.new.regs m.functions _ _ c.requires.state later c.write.ensures.written kept.1 ∙ writes_at x _ p v (c.running_closure-closure.ensures.cells s)))
