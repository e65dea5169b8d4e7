use Rattle.lua_flat_cases.proofs.CellsRuns.{all_of_them}
use Rattle.lua_flat_cases.proofs.examples.cells.Goals as goal

pub returns : goal.returns
returns c = all_of_them
