use Rattle.std.proofs.Common.{◌∷◌, refl, arith}
use Rattle.lua_code.specs.Seen.{expression_seen, operator_seen}
use Rattle.lua_code.specs.LuaSlotsCode.{OperateC}
use Rattle.lua_operators.specs.LuaSlotsPoints.{OperandNext, Evals}
use Rattle.lua_strides.proofs.LuaInPlaceReading.{node_move}
use Rattle.lua_strides.specs.LuaStackDeclaredFocusFocusTheVariants as focus
use Rattle.lua_operators.specs.LuaStackDeclaredFrameFrameTheVariants as frame
use Rattle.lua_operators.specs.LuaStackDeclaredFrameInExpressionTheVariants as in_expression
use Rattle.lua_loops.specs.LuaStateSeen.{slots_of, frames_of}
use Rattle.lua_loops.specs.LuaStateWorlds.{world_seen}
use Rattle.lua_strides.proofs.Paths.{ready, at_once, unpaid}
use Rattle.lua_turns.proofs.beginning.begin_operator.Goals as goal

pub returns-then-not-pay_nodes : goal.returns-then-not-pay_nodes
returns-then-not-pay_nodes g c = λ s of. unpaid s c.args.state.now 1 c.args.left.now c.pay_nodes.new.left c.args.turns.now c.pay_nodes.new.turns c.if-not-pay_nodes.ensures

pub returns : goal.returns
returns g c = λ s of.
    let m = c.args.state.now in
    let o = operator_seen c.args.op in
    let a = expression_seen c.args.a.now in
    let b = expression_seen c.args.b.now in
    let p = Evals (OperateC o a b c.args.line) (frames_of s m) in
    let q = Evals a (OperandNext o b c.args.line ∷ frames_of s m) in
    c.wait_for.ensures s p 1 c.args.left.now c.pay_nodes.new.left c.args.turns.now c.pay_nodes.new.turns
    (ready s m p 1 (focus.Evaluates c.args.a) (frame.Expression (in_expression.OperandNext c.args.op c.args.b c.args.line) ∷ m.frames) (λ fs. Evals a (OperandNext o b c.args.line ∷ fs)) of tt (tt, of.frames) (omega arith)
    (at_once (world_seen m.codes.world) p (slots_of s m) 1 q (slots_of s m) (λ f i k d e h n. node_move (world_seen m.codes.world) (slots_of s m) p q f i k d e refl h n)) refl) c.if-not-pay_nodes.ensures
