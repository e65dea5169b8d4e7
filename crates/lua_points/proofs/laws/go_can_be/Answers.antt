use Rattle.lua_points.proofs.Clauses.{go_can_be}
use Rattle.lua_points.proofs.laws.go_can_be.Goals as goal

pub returns : goal.returns
returns c = go_can_be
