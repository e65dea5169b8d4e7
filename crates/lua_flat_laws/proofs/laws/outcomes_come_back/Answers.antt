use Rattle.lua_flat_laws.proofs.Arrives.{outcomes_come_back}
use Rattle.lua_flat_laws.proofs.laws.outcomes_come_back.Goals as goal

pub returns : goal.returns
returns c = outcomes_come_back
