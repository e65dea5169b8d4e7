use Rattle.lua_slots_cases.proofs.ClosureRuns.{all_closures}
use Rattle.lua_slots_cases.proofs.examples.closures.Goals as goal

-- src/examples.rt
pub returns : goal.returns
returns c = all_closures
