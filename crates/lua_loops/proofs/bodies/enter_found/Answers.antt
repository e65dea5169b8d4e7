use Rattle.std.proofs.lemmas.Result.{IfOk-weaker}
use Rattle.std.proofs.Common.{subst}
use Rattle.std.specs.Prelude.{◌∷◌}
use Rattle.lua_code.specs.Seen.{block_seen, proto_seen}
use Rattle.lua_state.specs.LuaSlotsCalls.{slots_in_body}
use Rattle.lua_state.specs.LuaSlotsPoints.{BodyEnd, Runs, Now}
use Rattle.lua_state.specs.LuaStackSeen.{callee_seen, values_seen}
use Rattle.lua_state.specs.Charges.{EntersCall}
use Rattle.lua_loops.proofs.Entering.{called_of, enters, no_call}
use Rattle.lua_loops.proofs.bodies.enter_found.Goals as goal

pub begin_body-requires-clause-state : goal.begin_body-requires-clause-state
begin_body-requires-clause-state g c = called_of c.args.store.now c.args.state.now c.enter_call.new.state c.in_ok-entered.ensures.same c.requires.state

pub returns-then-not-entered : goal.returns-then-not-entered
returns-then-not-entered g c =
    no_call c.args.store.now c.args.state.now c.enter_call.new.state c.args.left.now c.enter_call.new.left c.args.turns.now _ c.in_ok-entered.ensures.same c.requires.state
    (subst (EntersCall c.args.state.now c.args.left.now c.enter_call.new.state c.enter_call.new.left) c.if-not-entered.true c.in_ok-entered.ensures.enters)

pub returns : goal.returns
returns g c =
    IfOk-weaker c.begin_body.result _ _ (λ r e. enters c.args.store.now c.begin_body.new.store c.args.state.now c.enter_call.new.state c.begin_body.new.state c.args.left.now c.enter_call.new.left c.args.turns.now c.tick.new.self
    (λ fs x. Now (Runs (block_seen c.args.proto.now.body) (BodyEnd ∷ fs)) (slots_in_body (callee_seen c.args.store.now c.args.callee) (proto_seen c.args.proto.now) (values_seen c.args.store.now.texts c.args.arguments) c.args.line x)) _
    c.in_ok-entered.ensures.same (subst (EntersCall c.args.state.now c.args.left.now c.enter_call.new.state c.enter_call.new.left) c.if-not-entered.false c.in_ok-entered.ensures.enters)
    c.tick.ensures e) (c.begin_body.ensures c.enter_call.new.left)
