-- The law, at the types of the function.
use Rattle.lua_heap.proofs.GraphLaws.{put_is_kept}
use Rattle.lua_heap.proofs.graphs.put_is_kept.Goals as goal

pub returns : goal.returns
returns g c = put_is_kept
