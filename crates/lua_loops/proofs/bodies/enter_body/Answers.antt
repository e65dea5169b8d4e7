use Rattle.std.proofs.lemmas.Result.{IfOk-weaker}
use Rattle.std.proofs.Common.{◌∙◌, sym, ap, refl, Option}
use Rattle.lua_code.specs.LuaSlotsCode.{CProto}
use Rattle.lua_state.specs.LuaSlotsCalls.{body_of}
use Rattle.lua_state.specs.LuaSlotsPoints.{Point, Now}
use Rattle.lua_state.specs.LuaStackSeen.{callee_seen, values_seen}
use Rattle.lua_state.specs.Seen.{slots_of, frames_of}
use Rattle.lua_state.proofs.Making.{counts_none}
use Rattle.lua_loops.proofs.Entering.{with_codes, with_codes_of, found}
use Rattle.lua_loops.proofs.bodies.enter_body.Goals as goal

pub enter_found-requires-clause-state : goal.enter_found-requires-clause-state
enter_found-requires-clause-state g c = with_codes_of c.args.store.now c.args.state.now c.function.new.self c.requires.state c.in_ok-found.ensures.codes

pub go-requires-clause-state : goal.go-requires-clause-state
go-requires-clause-state g c = with_codes_of c.args.store.now c.args.state.now c.function.new.self c.requires.state c.in_ok-found.ensures.codes

pub go-requires-clause-focus : goal.go-requires-clause-focus
go-requires-clause-focus g c = c.nothing-focus.ensures.of c.args.store.now

pub returns-in-Some : goal.returns-in-Some
returns-in-Some g c =
    IfOk-weaker c.enter_found.result _ _ (λ r e. found c.args.store.now c.enter_found.new.store c.args.state.now c.enter_found.new.state c.function.new.self c.args.left.now c.enter_found.new.left c.args.turns.now c.enter_found.new.turns _ _ _ c.in_ok-found.ensures.world
    (ap (λ (p : Option CProto). body_of p (callee_seen c.args.store.now c.args.callee) (values_seen c.args.store.now.texts c.args.arguments) c.args.line (frames_of c.args.store.now c.args.state.now) (slots_of c.args.store.now c.args.state.now))
    (sym (rw c.in-Some.is at c.in_ok-found.ensures.found))) e) c.enter_found.ensures

pub returns-in-None : goal.returns-in-None
returns-in-None g c =
    found c.args.store.now c.args.store.now c.args.state.now _ c.function.new.self c.args.left.now c.args.left.now c.args.turns.now c.args.turns.now _ _ _ c.in_ok-found.ensures.world
    (ap (λ (p : Option CProto). body_of p (callee_seen c.args.store.now c.args.callee) (values_seen c.args.store.now.texts c.args.arguments) c.args.line (frames_of c.args.store.now c.args.state.now) (slots_of c.args.store.now c.args.state.now))
    (sym (rw c.in-None.is at c.in_ok-found.ensures.found))
    ∙ ap (λ (p : Point). Now p (slots_of c.args.store.now c.args.state.now)) (sym (c.nothing-focus.ensures.point c.args.store.now (frames_of c.args.store.now c.args.state.now))))
    (counts_none c.args.store.now c.args.store.now (with_codes c.args.state.now c.function.new.self) (with_codes c.args.state.now c.function.new.self) c.args.left.now c.args.left.now c.args.turns.now c.args.turns.now _ _ refl (c.go.ensures c.args.left.now))
