use Rattle.lua_strides.proofs.Paths.{idle_here}
use Rattle.lua_turns.proofs.rows.begin_local.Goals as goal

pub returns-in-Some : goal.returns-in-Some
returns-in-Some g c = λ s of. rw c.in-Some.ensures (c.begin_declare.ensures s of)

pub returns-in-None : goal.returns-in-None
returns-in-None g c = λ s of. idle_here s c.args.state.now c.args.left.now c.args.turns.now
