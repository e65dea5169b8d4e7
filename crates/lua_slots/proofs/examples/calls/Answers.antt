use Rattle.lua_slots.proofs.ExampleCallsRuns.{all_calls}
use Rattle.lua_slots.proofs.examples.calls.Goals as goal

-- src/examples.rt
pub returns : goal.returns
returns c = all_calls
