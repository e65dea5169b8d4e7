use Rattle.lua_flat_cases.proofs.LoopsRuns.{all_of_them}
use Rattle.lua_flat_cases.proofs.examples.loops.Goals as goal

pub returns : goal.returns
returns c = all_of_them
