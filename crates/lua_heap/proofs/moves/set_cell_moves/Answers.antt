-- The law, at the types of the function.
use Rattle.lua_heap.proofs.MoveLaws.{set_cell_moves}
use Rattle.lua_heap.proofs.moves.set_cell_moves.Goals as goal

pub returns : goal.returns
returns g c = set_cell_moves g.X.Content.stands_for
