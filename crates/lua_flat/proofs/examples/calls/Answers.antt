use Rattle.lua_flat.proofs.ExampleCallsRuns.{all_of_them}
use Rattle.lua_flat.proofs.examples.calls.Goals as goal

pub returns : goal.returns
returns c = all_of_them
