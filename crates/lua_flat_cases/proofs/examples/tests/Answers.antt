use Rattle.lua_flat_cases.proofs.TestsRuns.{all_of_them}
use Rattle.lua_flat_cases.proofs.examples.tests.Goals as goal

pub returns : goal.returns
returns c = all_of_them
