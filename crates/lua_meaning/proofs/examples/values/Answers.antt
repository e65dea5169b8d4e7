use Rattle.lua_meaning.proofs.ExampleValuesLaws.{all_values}
use Rattle.lua_meaning.proofs.examples.values.Goals as goal

-- src/examples.rt
pub returns : goal.returns
returns c = all_values
