use Rattle.lua_code.proofs.Views.{expression-Call}
use Rattle.lua_strides.proofs.Paths.{idle_here}
use Rattle.lua_strides.proofs.striding.call_only.Goals as goal

pub returns-in-Call : goal.returns-in-Call
returns-in-Call g c = rw (c.in-Call.is, expression-Call) (rw (c.deref.ensures, c.as_slice.ensures) at c.call_before.ensures)

pub returns-in_default : goal.returns-in_default
returns-in_default g c = idle_here c.args.store.now c.args.state.now c.args.left.now c.args.turns.now
