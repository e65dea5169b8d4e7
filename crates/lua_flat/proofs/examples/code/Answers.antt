use Rattle.lua_flat.proofs.ExampleCodeRuns.{all_of_them}
use Rattle.lua_flat.proofs.examples.code.Goals as goal

pub returns : goal.returns
returns c = all_of_them
