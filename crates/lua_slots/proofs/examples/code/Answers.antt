use Rattle.lua_slots.proofs.ExampleCodeRuns.{all_code}
use Rattle.lua_slots.proofs.examples.code.Goals as goal

-- src/examples.rt
pub returns : goal.returns
returns c = all_code
