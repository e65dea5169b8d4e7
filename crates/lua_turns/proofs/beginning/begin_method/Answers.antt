use Rattle.std.proofs.Common.{sym, ap, ◌∷◌, List, ℕ}
use Rattle.lua_code.specs.Seen.{expression_seen, expressions_seen}
use Rattle.lua_code.specs.LuaSlotsCode.{MethodC}
use Rattle.lua_operators.specs.LuaSlotsErrors.{node}
use Rattle.lua_operators.specs.LuaSlotsPoints.{MethodNext, Evals, Now}
use Rattle.lua_strides.specs.LuaStackDeclaredFocusFocusTheVariants as focus
use Rattle.lua_operators.specs.LuaStackDeclaredFrameFrameTheVariants as frame
use Rattle.lua_operators.specs.LuaStackDeclaredFrameInExpressionTheVariants as in_expression
use Rattle.lua_loops.specs.LuaStateSeen.{slots_of, frames_of}
use Rattle.lua_strides.proofs.Paths.{unpaid}
use Rattle.lua_turns.proofs.Begun.{begun}
use Rattle.lua_turns.proofs.beginning.begin_method.Goals as goal

pub returns-then-not-pay_nodes : goal.returns-then-not-pay_nodes
returns-then-not-pay_nodes g c = λ s of named. unpaid s c.args.state.now 1 c.args.left.now c.pay_nodes.new.left c.args.turns.now c.pay_nodes.new.turns c.if-not-pay_nodes.ensures

pub returns : goal.returns
returns g c = λ s of named.
    let m = c.args.state.now in
    let a = expression_seen c.args.a.now in
    let args = expressions_seen c.args.arguments.now in
    let p = Evals (MethodC a c.args.name args c.args.line) (frames_of s m) in
    c.wait_for.ensures s p 1 c.args.left.now c.pay_nodes.new.left c.args.turns.now c.pay_nodes.new.turns
    (begun s m p (focus.Evaluates c.args.a) (frame.Expression (in_expression.MethodNext c.args.text c.args.arguments c.args.line)) of tt named.of
    (ap (λ (b : List ℕ). node (Now (Evals a (MethodNext b args c.args.line ∷ frames_of s m)) (slots_of s m))) (sym named.is))) c.if-not-pay_nodes.ensures
