use Rattle.lua_flat.proofs.ExampleLevelsRuns.{all_of_them}
use Rattle.lua_flat.proofs.examples.levels.Goals as goal

pub returns : goal.returns
returns c = all_of_them
