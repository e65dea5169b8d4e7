use Rattle.lua_flat_cases.proofs.CellsFlat.{all_flat}
use Rattle.lua_flat_cases.proofs.examples.flat_cells.Goals as goal

pub returns : goal.returns
returns c = all_flat
