use Rattle.lua_code.specs.Seen.{expression_seen}
use Rattle.lua_operators.specs.LuaSlotsPoints.{Evals}
use Rattle.lua_strides.specs.LuaStackDeclaredFocusFocusTheVariants as focus
use Rattle.lua_operators.specs.LuaStackDeclaredFrameFrameTheVariants as frame
use Rattle.lua_operators.specs.LuaStackDeclaredFrameInExpressionTheVariants as in_expression
use Rattle.lua_loops.specs.LuaStateSeen.{slots_of, frames_of}
use Rattle.lua_loops.specs.LuaStateWorlds.{world_seen}
use Rattle.lua_strides.proofs.Paths.{unpaid}
use Rattle.lua_turns.specs.Deciding.{deciding_with}
use Rattle.lua_turns.proofs.Begun.{begun, decides_begins}
use Rattle.lua_turns.proofs.beginning.begin_deciding.Goals as goal

pub returns-then-not-pay_nodes : goal.returns-then-not-pay_nodes
returns-then-not-pay_nodes g c = λ s of. unpaid s c.args.state.now 1 c.args.left.now c.pay_nodes.new.left c.args.turns.now c.pay_nodes.new.turns c.if-not-pay_nodes.ensures

pub returns : goal.returns
returns g c = λ s of.
    let p = Evals (deciding_with c.args.deciding (expression_seen c.args.a.now) (expression_seen c.args.b.now)) (frames_of s c.args.state.now) in
    c.wait_for.ensures s p 1 c.args.left.now c.pay_nodes.new.left c.args.turns.now c.pay_nodes.new.turns
    (begun s c.args.state.now p (focus.Evaluates c.args.a) (frame.Expression (in_expression.DecideNext c.args.deciding c.args.b)) of tt tt (decides_begins (world_seen c.args.state.now.codes.world) c.args.deciding (expression_seen c.args.a.now) (expression_seen c.args.b.now) (frames_of s c.args.state.now) (slots_of s c.args.state.now))) c.if-not-pay_nodes.ensures
