-- The law, at the types of the function.
use Rattle.lua_walk.proofs.WalkLaws.{copy_costs_the_same}
use Rattle.lua_walk.proofs.laws.copy_costs_the_same.Goals as goal

pub returns : goal.returns
returns g c = copy_costs_the_same g.X.Content.stands_for
