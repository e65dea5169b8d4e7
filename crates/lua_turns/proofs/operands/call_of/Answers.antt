use Rattle.std.proofs.Common.{◌+◌, sym, subst}
use Rattle.lua_code.specs.Seen.{expression_seen, expressions_seen}
use Rattle.lua_code.specs.LuaSlotsCode.{CallC}
use Rattle.lua_operators.specs.LuaSlotsPoints.{Evals}
use Rattle.lua_strides.specs.LuaStackDeclaredFocusFocusTheVariants as focus
use Rattle.lua_operators.specs.LuaStackDeclaredFrameFrameTheVariants as frame
use Rattle.lua_operators.specs.LuaStackDeclaredFrameInExpressionTheVariants as in_expression
use Rattle.lua_operators.specs.LuaStackOf.{ValuesOf}
use Rattle.lua_loops.specs.LuaStateSeen.{frames_of}
use Rattle.lua_strides.proofs.Paths.{with_frames, unpaid}
use Rattle.lua_turns.proofs.Following.{strides_must}
use Rattle.lua_turns.proofs.ReadFirst.{call_first, waits_of}
use Rattle.lua_turns.proofs.operands.call_of.Goals as goal

pub returns-then-not-pay_nodes : goal.returns-then-not-pay_nodes
returns-then-not-pay_nodes g c = unpaid c.args.store.now c.args.state.now (1 + c.in-Some.called.nodes) c.args.left.now c.pay_nodes.new.left c.args.turns.now c.pay_nodes.new.turns c.if-not-pay_nodes.ensures

pub list-requires-clause-state : goal.list-requires-clause-state
list-requires-clause-state g c =
    let got = rw c.in-Some.is at c.read.ensures in
    waits_of c.args.store.now c.args.state.now (frame.Expression (in_expression.CallNow c.in-Some.called.value c.args.line)) c.push.new.self c.requires got.of c.in_ok-push-in-Some.ensures.ok

pub list-requires-clause-before : goal.list-requires-clause-before
list-requires-clause-before g c = subst (ValuesOf c.args.store.now) (sym c.new-none.ensures) tt

pub returns-in_ok-push-in-Some : goal.returns-in_ok-push-in-Some
returns-in_ok-push-in-Some g c =
    let s = c.args.store.now in
    let m = c.args.state.now in
    let y = focus.Lists c.as_slice.result c.new-none.result in
    strides_must s m (Evals (CallC (expression_seen c.args.a.now) (expressions_seen c.args.arguments.now) c.args.line) (frames_of s m)) c.args.left.now c.args.turns.now s (with_frames m c.push.new.self) c.pay_nodes.new.left c.pay_nodes.new.turns y
    c.list.new.store c.list.new.state c.list.new.left c.list.new.turns c.list.result
    (call_first s m (expression_seen c.args.a.now) c.args.arguments.now c.as_slice.result c.args.line c.in-Some.called c.new-none.result c.push.new.self c.args.left.now c.pay_nodes.new.left c.args.turns.now c.pay_nodes.new.turns c.requires
    (rw c.in-Some.is at c.read.ensures) c.as_slice.ensures c.new-none.ensures c.in_ok-push-in-Some.ensures.ok c.if-not-pay_nodes.ensures) c.list.ensures

pub returns-in-None : goal.returns-in-None
returns-in-None g c = c.begin_call.ensures c.args.store.now c.requires
