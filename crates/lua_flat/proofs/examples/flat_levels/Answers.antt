use Rattle.lua_flat.proofs.ExampleLevelsFlat.{all_flat}
use Rattle.lua_flat.proofs.examples.flat_levels.Goals as goal

pub returns : goal.returns
returns c = all_flat
