use Rattle.lua_flat_cases.proofs.ListsRuns.{all_of_them}
use Rattle.lua_flat_cases.proofs.examples.lists.Goals as goal

pub returns : goal.returns
returns c = all_of_them
