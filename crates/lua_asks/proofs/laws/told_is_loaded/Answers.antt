use Rattle.lua_asks.proofs.Once.{told_is_loaded}
use Rattle.lua_asks.proofs.laws.told_is_loaded.Goals as goal

pub returns : goal.returns
returns c = told_is_loaded
