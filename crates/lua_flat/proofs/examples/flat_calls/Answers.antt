use Rattle.lua_flat.proofs.ExampleCallsFlat.{all_flat}
use Rattle.lua_flat.proofs.examples.flat_calls.Goals as goal

pub returns : goal.returns
returns c = all_flat
