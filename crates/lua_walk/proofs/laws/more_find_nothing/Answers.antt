-- The law, at the type of the function.
use Rattle.lua_walk.proofs.WalkLaws.{more_find_nothing}
use Rattle.lua_walk.proofs.laws.more_find_nothing.Goals as goal

pub returns : goal.returns
returns g c = more_find_nothing
