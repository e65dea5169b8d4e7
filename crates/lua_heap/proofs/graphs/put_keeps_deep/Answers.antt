-- The law, at the types of the function.
use Rattle.lua_heap.proofs.GraphLaws.{put_keeps_deep}
use Rattle.lua_heap.proofs.graphs.put_keeps_deep.Goals as goal

pub returns : goal.returns
returns g c = put_keeps_deep
