use Rattle.lua_flat_cases.proofs.ListsFlat.{all_flat}
use Rattle.lua_flat_cases.proofs.examples.flat_lists.Goals as goal

pub returns : goal.returns
returns c = all_flat
