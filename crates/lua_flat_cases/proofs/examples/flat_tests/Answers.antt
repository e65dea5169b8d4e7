use Rattle.lua_flat_cases.proofs.TestsFlat.{all_flat}
use Rattle.lua_flat_cases.proofs.examples.flat_tests.Goals as goal

pub returns : goal.returns
returns c = all_flat
