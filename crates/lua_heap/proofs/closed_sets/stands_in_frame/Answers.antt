-- The law, at the types of the function.
use Rattle.lua_heap.proofs.SetLaws.{stands_in_frame}
use Rattle.lua_heap.proofs.closed_sets.stands_in_frame.Goals as goal

pub returns : goal.returns
returns g c = stands_in_frame g.X.Content.stands_for g.X.Content.names
