use Rattle.lua_points.proofs.Allowances.{other_allowances_stay}
use Rattle.lua_points.proofs.laws.other_allowances_stay.Goals as goal

pub returns : goal.returns
returns c = other_allowances_stay
