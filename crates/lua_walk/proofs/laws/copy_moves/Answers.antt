-- The law, at the types of the function.
use Rattle.lua_walk.proofs.WalkLaws.{copy_moves}
use Rattle.lua_walk.proofs.laws.copy_moves.Goals as goal

pub returns : goal.returns
returns g c = copy_moves g.X.Content.stands_for
