use Rattle.lua_points.proofs.Calls.{reach_stays}
use Rattle.lua_points.proofs.laws.reach_stays.Goals as goal

pub returns : goal.returns
returns c = reach_stays
