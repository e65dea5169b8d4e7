use Rattle.lua_points.proofs.Families.{one_goes}
use Rattle.lua_points.proofs.laws.one_goes.Goals as goal

pub returns : goal.returns
returns c = one_goes
