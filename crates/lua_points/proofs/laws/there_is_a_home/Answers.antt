use Rattle.lua_points.proofs.Starts.{there_is_a_home}
use Rattle.lua_points.proofs.laws.there_is_a_home.Goals as goal

pub returns : goal.returns
returns c = there_is_a_home
