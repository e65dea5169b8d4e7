use Rattle.lua_meaning.proofs.ExampleChargesLaws.{all_charges}
use Rattle.lua_meaning.proofs.examples.charges.Goals as goal

-- src/examples.rt
pub returns : goal.returns
returns c = all_charges
