use Rattle.std.proofs.Common.{◌-◌, refl, subst, arith}
use Rattle.lua_turns.specs.LuaStateCharges.{EntersCall}
use Rattle.lua_turns.specs.LuaStateSeen.{slots_of}
use Rattle.lua_turns.proofs.LuaStridesPaths.{unpaid}
use Rattle.lua_calls.proofs.Enters.{calls_of}
use Rattle.lua_rows.specs.Begins.{begun_of}
use Rattle.lua_rows.proofs.Calling.{call_left, call_made}
use Rattle.lua_rows.proofs.making.make_call.Goals as goal

pub returns-then-not-pay_nodes : goal.returns-then-not-pay_nodes
returns-then-not-pay_nodes g c = unpaid c.args.store.now c.args.state.now c.args.nodes c.args.left.now c.pay_nodes.new.left c.args.turns.now c.pay_nodes.new.turns c.if-not-pay_nodes.ensures

pub unreachable-requires : goal.unreachable-requires
unreachable-requires g c =
    call_left c.args.state.now c.enter_call.new.state (slots_of c.args.store.now c.args.state.now) c.args.nodes c.args.left.now c.pay_nodes.new.left c.enter_call.new.left c.args.turns.now c.pay_nodes.new.turns (omega (arith, c.if-left-eq0.false)) c.if-not-pay_nodes.ensures
    (subst (EntersCall c.args.state.now (record c.pay_nodes.new.left { steps = c.pay_nodes.new.left.steps - 1 }) c.enter_call.new.state c.enter_call.new.left) c.if-not-entered.true c.in_ok-entered.ensures.enters)

pub begin-requires-clause-names : goal.begin-requires-clause-names
begin-requires-clause-names g c = rw c.names-names.ensures (calls_of c.args.store.now c.args.state.now c.enter_call.new.state c.in_ok-entered.ensures.same c.requires.state).scenes.names

pub begin-requires-clause-arguments : goal.begin-requires-clause-arguments
begin-requires-clause-arguments g c = c.requires.arguments

pub returns : goal.returns
returns g c =
    call_made c.args.store.now c.begin.new.store c.args.state.now c.enter_call.new.state c.args.callee c.args.arguments.now c.args.nodes c.args.left.now c.pay_nodes.new.left (record c.pay_nodes.new.left { steps = c.pay_nodes.new.left.steps - 1 })
    c.enter_call.new.left c.begin.new.left c.args.turns.now c.pay_nodes.new.turns c.tick.new.self (begun_of c.in_ok-made.made) c.requires.state (omega (arith, c.if-left-nodes.false)) c.if-not-pay_nodes.ensures refl c.in_ok-entered.ensures.same
    (subst (EntersCall c.args.state.now (record c.pay_nodes.new.left { steps = c.pay_nodes.new.left.steps - 1 }) c.enter_call.new.state c.enter_call.new.left) c.if-not-entered.false c.in_ok-entered.ensures.enters) c.tick.ensures
    c.begin.ensures.later c.in_ok-made.ensures.begins c.in_ok-made.ensures.of
