-- The law, at the type of the function.
use Rattle.lua_walk.proofs.WalkLaws.{reached_is_all}
use Rattle.lua_walk.proofs.laws.reached_is_all.Goals as goal

pub returns : goal.returns
returns g c = reached_is_all
