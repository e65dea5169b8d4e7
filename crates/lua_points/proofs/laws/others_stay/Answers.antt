use Rattle.lua_points.proofs.Calls.{others_stay}
use Rattle.lua_points.proofs.laws.others_stay.Goals as goal

pub returns : goal.returns
returns c = others_stay
