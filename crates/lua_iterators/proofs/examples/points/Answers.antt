use Rattle.lua_iterators.proofs.Rows.{points}
use Rattle.lua_iterators.proofs.examples.points.Goals as goal

pub returns : goal.returns
returns c = points
