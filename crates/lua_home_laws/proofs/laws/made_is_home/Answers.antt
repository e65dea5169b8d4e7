use Rattle.lua_home_laws.proofs.Homes.{made_is_home}
use Rattle.lua_home_laws.proofs.laws.made_is_home.Goals as goal

pub returns : goal.returns
returns c = made_is_home
