use Rattle.lua_in_place.proofs.Computed.{all_examples}
use Rattle.lua_in_place.proofs.laws.examples.Goals as goal

pub returns : goal.returns
returns c = all_examples
