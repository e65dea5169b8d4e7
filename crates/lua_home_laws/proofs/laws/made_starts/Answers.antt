use Rattle.lua_home_laws.proofs.Homes.{made_starts}
use Rattle.lua_home_laws.proofs.laws.made_starts.Goals as goal

pub returns : goal.returns
returns c = made_starts
