-- The law, at the types of the function.
use Rattle.lua_heap.proofs.MoveLaws.{put_first_stands}
use Rattle.lua_heap.proofs.moves.put_first_stands.Goals as goal

pub returns : goal.returns
returns g c = put_first_stands g.X.Content.stands_for
