use Rattle.lua_points.proofs.Starts.{start_is_at}
use Rattle.lua_points.proofs.laws.start_is_at.Goals as goal

pub returns : goal.returns
returns c = start_is_at
