use Rattle.lua_strides.proofs.Paths.{idle_here}
use Rattle.lua_turns.proofs.rows.begin_assignment.Goals as goal

pub returns-in-Some-only : goal.returns-in-Some-only
returns-in-Some-only g c = rw (c.in-Some.ensures, c.in-Some-only.ensures) c.begin_set.ensures

pub returns-in-None-only : goal.returns-in-None-only
returns-in-None-only g c = idle_here c.args.store.now c.args.state.now c.args.left.now c.args.turns.now

pub returns-in-None : goal.returns-in-None
returns-in-None g c = idle_here c.args.store.now c.args.state.now c.args.left.now c.args.turns.now
