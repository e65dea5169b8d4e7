use Rattle.lua_meaning.proofs.ExampleFunctionsLaws.{all_functions}
use Rattle.lua_meaning.proofs.examples.functions.Goals as goal

-- src/examples.rt
pub returns : goal.returns
returns c = all_functions
