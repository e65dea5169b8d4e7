-- The law, at the type of the function.
use Rattle.lua_walk.proofs.WalkLaws.{taken_is_reached}
use Rattle.lua_walk.proofs.laws.taken_is_reached.Goals as goal

pub returns : goal.returns
returns g c = taken_is_reached
