use Rattle.lua_points.proofs.Families.{one_more}
use Rattle.lua_points.proofs.laws.one_more.Goals as goal

pub returns : goal.returns
returns c = one_more
