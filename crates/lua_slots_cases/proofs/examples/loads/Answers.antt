use Rattle.lua_slots_cases.proofs.LoadRuns.{all_loads}
use Rattle.lua_slots_cases.proofs.examples.loads.Goals as goal

-- src/examples.rt
pub returns : goal.returns
returns c = all_loads
