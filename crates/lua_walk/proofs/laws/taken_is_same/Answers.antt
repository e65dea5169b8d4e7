-- The law, at the types of the function.
use Rattle.lua_walk.proofs.WalkLaws.{taken_is_same}
use Rattle.lua_walk.proofs.laws.taken_is_same.Goals as goal

pub returns : goal.returns
returns g c = taken_is_same g.X.Content.stands_for
