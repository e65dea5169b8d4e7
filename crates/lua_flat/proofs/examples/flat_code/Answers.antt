use Rattle.lua_flat.proofs.ExampleCodeFlat.{all_flat}
use Rattle.lua_flat.proofs.examples.flat_code.Goals as goal

pub returns : goal.returns
returns c = all_flat
