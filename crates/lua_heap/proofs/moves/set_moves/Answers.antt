-- The law, at the types of the function.
use Rattle.lua_heap.proofs.MoveLaws.{set_moves}
use Rattle.lua_heap.proofs.moves.set_moves.Goals as goal

pub returns : goal.returns
returns g c = set_moves g.X.Content.stands_for
