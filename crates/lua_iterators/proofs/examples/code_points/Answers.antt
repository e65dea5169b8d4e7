use Rattle.lua_iterators.proofs.Rows.{code_points}
use Rattle.lua_iterators.proofs.examples.code_points.Goals as goal

pub returns : goal.returns
returns c = code_points
