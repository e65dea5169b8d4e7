use Rattle.lua_flat_laws.proofs.Comes.{what_follows_comes}
use Rattle.lua_flat_laws.proofs.laws.what_follows_comes.Goals as goal

pub returns : goal.returns
returns c = what_follows_comes
