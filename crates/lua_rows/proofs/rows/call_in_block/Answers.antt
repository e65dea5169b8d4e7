use Rattle.lua_turns.proofs.LuaStridesPaths.{idle_here}
use Rattle.lua_rows.proofs.rows.call_in_block.Goals as goal

pub returns-in-Some : goal.returns-in-Some
returns-in-Some g c =
    let same = rw c.in-Some.is at c.front_of.ensures in
    rw same c.call_in_statement.ensures

pub returns-in-None : goal.returns-in-None
returns-in-None g c = idle_here c.args.store.now c.args.state.now c.args.left.now c.args.turns.now
