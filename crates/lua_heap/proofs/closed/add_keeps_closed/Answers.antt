-- The law, at the types of the function.
use Rattle.lua_heap.proofs.ClosedHeaps.{add_keeps_closed}
use Rattle.lua_heap.proofs.closed.add_keeps_closed.Goals as goal

pub returns : goal.returns
returns g c = add_keeps_closed
