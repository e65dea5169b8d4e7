use Rattle.std.proofs.Common.{◌+◌, refl, sym, ap, List, ℕ}
use Rattle.lua_code.specs.Seen.{expression_seen, expressions_seen}
use Rattle.lua_code.specs.LuaSlotsCode.{MethodC}
use Rattle.lua_operators.specs.LuaSlotsPoints.{Evals, MethodNext}
use Rattle.lua_operators.specs.LuaStackDeclaredFrameFrameTheVariants as frame
use Rattle.lua_operators.specs.LuaStackDeclaredFrameInExpressionTheVariants as in_expression
use Rattle.lua_loops.specs.LuaStateSeen.{frames_of, constants_in}
use Rattle.lua_strides.proofs.Paths.{unpaid}
use Rattle.lua_turns.proofs.ReadFirst.{given_first}
use Rattle.lua_turns.proofs.operands.method_named.Goals as goal

pub returns-then-not-pay_nodes : goal.returns-then-not-pay_nodes
returns-then-not-pay_nodes g c = unpaid c.args.store.now c.args.state.now (1 + c.in-Some.object.nodes) c.args.left.now c.pay_nodes.new.left c.args.turns.now c.pay_nodes.new.turns c.if-not-pay_nodes.ensures

pub returns-else-not-pay_nodes : goal.returns-else-not-pay_nodes
returns-else-not-pay_nodes g c =
    let s = c.args.store.now in
    let m = c.args.state.now in
    let r = c.in-Some.object in
    let a = expression_seen c.args.a.now in
    let args = expressions_seen c.args.arguments.now in
    let e = MethodC a c.args.name args c.args.line in
    let waits = MethodNext (constants_in s m c.args.name) args c.args.line in
    let f = frame.Expression (in_expression.MethodNext c.args.text c.args.arguments c.args.line) in
    let named = c.requires.text in
    c.wait_for.ensures s (Evals e (frames_of s m)) (1 + r.nodes) c.args.left.now c.pay_nodes.new.left c.args.turns.now c.pay_nodes.new.turns
    (given_first s m e a waits r c.requires.state (rw c.in-Some.is at c.read.ensures) refl f (ap (λ (b : List ℕ). MethodNext b args c.args.line) (sym named.is)) named.of) c.if-not-pay_nodes.ensures

pub returns-in-None : goal.returns-in-None
returns-in-None g c = c.begin_method.ensures c.args.store.now c.requires.state c.requires.text
