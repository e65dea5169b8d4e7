-- The law, at the types of the function.
use Rattle.lua_heap.proofs.SetLaws.{values_name_the_image}
use Rattle.lua_heap.proofs.closed_sets.values_name_the_image.Goals as goal

pub returns : goal.returns
returns c = values_name_the_image
