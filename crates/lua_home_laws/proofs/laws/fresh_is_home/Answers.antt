use Rattle.lua_home_laws.proofs.Homes.{fresh_is_home}
use Rattle.lua_home_laws.proofs.laws.fresh_is_home.Goals as goal

pub returns : goal.returns
returns c = fresh_is_home
