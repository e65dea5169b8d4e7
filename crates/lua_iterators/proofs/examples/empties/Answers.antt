use Rattle.lua_iterators.proofs.Rows.{empties}
use Rattle.lua_iterators.proofs.examples.empties.Goals as goal

pub returns : goal.returns
returns c = empties
