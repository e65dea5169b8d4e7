use Rattle.lua_points.proofs.Clauses.{clause_of_answer}
use Rattle.lua_points.proofs.laws.clause_of_answer.Goals as goal

pub returns : goal.returns
returns c = clause_of_answer
