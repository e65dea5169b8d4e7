-- The law, at the types of the function.
use Rattle.lua_heap.proofs.MoveLaws.{add_first_moves}
use Rattle.lua_heap.proofs.moves.add_first_moves.Goals as goal

pub returns : goal.returns
returns g c = add_first_moves g.X.Content.stands_for
