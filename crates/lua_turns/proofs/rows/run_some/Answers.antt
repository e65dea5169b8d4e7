use Rattle.lua_strides.proofs.Paths.{idle_here}
use Rattle.lua_turns.proofs.rows.run_some.Goals as goal

pub returns-in-Some : goal.returns-in-Some
returns-in-Some g c = rw c.in-Some.ensures c.execute.ensures

pub returns-in-None : goal.returns-in-None
returns-in-None g c = idle_here c.args.store.now c.args.state.now c.args.left.now c.args.turns.now
