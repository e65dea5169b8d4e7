use Rattle.lua_points.proofs.Calls.{unowned_stays_}
use Rattle.lua_points.proofs.laws.unowned_stays.Goals as goal

pub returns : goal.returns
returns c = unowned_stays_
