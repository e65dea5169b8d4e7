use Rattle.std.proofs.Common.{refl}
use Rattle.lua_code.specs.Seen.{expression_seen}
use Rattle.lua_code.specs.LuaSlotsCode.{UnaryC}
use Rattle.lua_operators.specs.LuaSlotsPoints.{Evals}
use Rattle.lua_strides.specs.LuaStackDeclaredFocusFocusTheVariants as focus
use Rattle.lua_operators.specs.LuaStackDeclaredFrameFrameTheVariants as frame
use Rattle.lua_operators.specs.LuaStackDeclaredFrameInExpressionTheVariants as in_expression
use Rattle.lua_loops.specs.LuaStateSeen.{frames_of}
use Rattle.lua_strides.proofs.Paths.{unpaid}
use Rattle.lua_turns.proofs.Begun.{begun}
use Rattle.lua_turns.proofs.beginning.begin_unary.Goals as goal

pub returns-then-not-pay_nodes : goal.returns-then-not-pay_nodes
returns-then-not-pay_nodes g c = λ s of. unpaid s c.args.state.now 1 c.args.left.now c.pay_nodes.new.left c.args.turns.now c.pay_nodes.new.turns c.if-not-pay_nodes.ensures

pub returns : goal.returns
returns g c = λ s of.
    let p = Evals (UnaryC c.args.op (expression_seen c.args.a.now) c.args.line) (frames_of s c.args.state.now) in
    c.wait_for.ensures s p 1 c.args.left.now c.pay_nodes.new.left c.args.turns.now c.pay_nodes.new.turns
    (begun s c.args.state.now p (focus.Evaluates c.args.a) (frame.Expression (in_expression.UnaryNow c.args.op c.args.line)) of tt tt refl) c.if-not-pay_nodes.ensures
