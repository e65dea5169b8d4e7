-- The law, at the type of the function.
use Rattle.lua_walk.proofs.WalkLaws.{taken_is_graph}
use Rattle.lua_walk.proofs.laws.taken_is_graph.Goals as goal

pub returns : goal.returns
returns g c = taken_is_graph
