use Rattle.lua_points.proofs.Families.{order_is_free}
use Rattle.lua_points.proofs.laws.order_is_free.Goals as goal

pub returns : goal.returns
returns c = order_is_free
