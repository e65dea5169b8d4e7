-- The law, at the types of the function.
use Rattle.lua_heap.proofs.MoveLaws.{put_moves}
use Rattle.lua_heap.proofs.moves.put_moves.Goals as goal

pub returns : goal.returns
returns g c = put_moves g.X.Content.stands_for
