use Rattle.lua_flat_cases.proofs.LoopsFlat.{all_flat}
use Rattle.lua_flat_cases.proofs.examples.flat_loops.Goals as goal

pub returns : goal.returns
returns c = all_flat
