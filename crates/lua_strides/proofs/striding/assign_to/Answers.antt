use Rattle.lua_strides.proofs.Paths.{idle_here}
use Rattle.lua_strides.proofs.striding.assign_to.Goals as goal

pub returns-in-Variable : goal.returns-in-Variable
returns-in-Variable g c = rw c.in-Variable.is c.assign.ensures

pub returns-in-At : goal.returns-in-At
returns-in-At g c = rw c.in-At.is c.assign_entry.ensures

pub returns-in_default : goal.returns-in_default
returns-in_default g c = idle_here c.args.store.now c.args.state.now c.args.left.now c.args.turns.now
