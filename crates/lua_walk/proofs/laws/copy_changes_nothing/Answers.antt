-- The law, at the type of the function.
use Rattle.lua_walk.proofs.WalkLaws.{copy_changes_nothing}
use Rattle.lua_walk.proofs.laws.copy_changes_nothing.Goals as goal

pub returns : goal.returns
returns g c = copy_changes_nothing
