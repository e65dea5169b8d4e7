use Rattle.lua_code.proofs.Views.{statement-Call, statement-Declare}
use Rattle.lua_turns.proofs.LuaStridesPaths.{idle_here}
use Rattle.lua_rows.proofs.rows.call_in_statement.Goals as goal

pub returns-in-Call : goal.returns-in-Call
returns-in-Call g c = rw (c.in-Call.is, statement-Call) c.call_statement.ensures

pub returns-in-Some : goal.returns-in-Some
returns-in-Some g c = rw (c.in-Declare.is, statement-Declare, ← c.as_slice.ensures, c.in-Some.ensures) (rw c.as_slice-in-Some.ensures at c.call_declaration.ensures)

pub returns-in-None : goal.returns-in-None
returns-in-None g c = idle_here c.args.store.now c.args.state.now c.args.left.now c.args.turns.now

pub returns-in_default : goal.returns-in_default
returns-in_default g c = idle_here c.args.store.now c.args.state.now c.args.left.now c.args.turns.now
