use Rattle.lua_state.proofs.Staying.{state_stays}
use Rattle.lua_state.proofs.laws.state_stays.Goals as goal

pub returns : goal.returns
returns c = state_stays
