use Rattle.lua_points.proofs.Families.{one_is_answered}
use Rattle.lua_points.proofs.laws.one_is_answered.Goals as goal

pub returns : goal.returns
returns c = one_is_answered
