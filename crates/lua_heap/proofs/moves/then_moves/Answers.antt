-- The law, at the types of the function.
use Rattle.lua_heap.proofs.MoveLaws.{then_moves}
use Rattle.lua_heap.proofs.moves.then_moves.Goals as goal

pub returns : goal.returns
returns g c = then_moves g.X.Content.stands_for
