use Rattle.lua_turns.proofs.LuaStridesPaths.{idle_here}
use Rattle.lua_rows.proofs.rows.call_first.Goals as goal

pub returns-in-Evaluates : goal.returns-in-Evaluates
returns-in-Evaluates g c = rw c.in-Evaluates.is c.call_in_expression.ensures

pub returns-in-Runs : goal.returns-in-Runs
returns-in-Runs g c = rw c.in-Runs.is c.call_in_block.ensures

pub returns-in_default : goal.returns-in_default
returns-in_default g c = idle_here c.args.store.now c.args.state.now c.args.left.now c.args.turns.now
