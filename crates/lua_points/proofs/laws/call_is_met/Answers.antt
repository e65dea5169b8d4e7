use Rattle.lua_points.proofs.Calls.{call_is_met}
use Rattle.lua_points.proofs.laws.call_is_met.Goals as goal

pub returns : goal.returns
returns c = call_is_met
