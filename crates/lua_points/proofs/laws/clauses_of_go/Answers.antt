use Rattle.lua_points.proofs.Clauses.{clauses_of_go}
use Rattle.lua_points.proofs.laws.clauses_of_go.Goals as goal

pub returns : goal.returns
returns c = clauses_of_go
