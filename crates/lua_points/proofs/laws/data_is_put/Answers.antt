use Rattle.lua_points.proofs.Families.{data_is_put}
use Rattle.lua_points.proofs.laws.data_is_put.Goals as goal

pub returns : goal.returns
returns c = data_is_put
