use Rattle.std.proofs.Common.{refl}
use Rattle.lua_code.specs.Seen.{block_seen, expression_seen}
use Rattle.lua_code.specs.LuaSlotsCode.{CallStatC, ThenC}
use Rattle.lua_operators.specs.LuaSlotsPoints.{Runs}
use Rattle.lua_strides.specs.LuaStackDeclaredFocusFocusTheVariants as focus
use Rattle.lua_operators.specs.LuaStackDeclaredFrameFrameTheVariants as frame
use Rattle.lua_operators.specs.LuaStackDeclaredFrameInStatementTheVariants as in_statement
use Rattle.lua_loops.specs.LuaStateSeen.{frames_of}
use Rattle.lua_strides.proofs.Paths.{unpaid}
use Rattle.lua_turns.proofs.Begun.{begun}
use Rattle.lua_turns.proofs.statements.begin_call_statement.Goals as goal

pub returns-then-not-pay_nodes : goal.returns-then-not-pay_nodes
returns-then-not-pay_nodes g c = λ s of. unpaid s c.args.state.now 1 c.args.left.now c.pay_nodes.new.left c.args.turns.now c.pay_nodes.new.turns c.if-not-pay_nodes.ensures

pub returns : goal.returns
returns g c = λ s of.
    let p = Runs (ThenC (CallStatC (expression_seen c.args.e.now)) (block_seen c.args.rest.now)) (frames_of s c.args.state.now) in
    c.wait_for.ensures s p 1 c.args.left.now c.pay_nodes.new.left c.args.turns.now c.pay_nodes.new.turns
    (begun s c.args.state.now p (focus.Evaluates c.args.e) (frame.Statement (in_statement.StatsNext c.args.rest)) of tt tt refl) c.if-not-pay_nodes.ensures
