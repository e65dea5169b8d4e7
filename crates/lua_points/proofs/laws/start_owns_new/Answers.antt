use Rattle.lua_points.proofs.Starts.{start_owns_new}
use Rattle.lua_points.proofs.laws.start_owns_new.Goals as goal

pub returns : goal.returns
returns c = start_owns_new
