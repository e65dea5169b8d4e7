use Rattle.lua_meaning.proofs.ExampleCostsLaws.{all_costs}
use Rattle.lua_meaning.proofs.examples.costs.Goals as goal

-- src/examples.rt
pub returns : goal.returns
returns c = all_costs
