-- The law, at the types of the function.
use Rattle.lua_heap.proofs.ReachLaws.{owned_is_reached}
use Rattle.lua_heap.proofs.reach.owned_is_reached.Goals as goal

pub returns : goal.returns
returns g c = owned_is_reached
