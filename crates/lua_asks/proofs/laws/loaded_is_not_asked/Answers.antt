use Rattle.lua_asks.proofs.Once.{loaded_is_not_asked}
use Rattle.lua_asks.proofs.laws.loaded_is_not_asked.Goals as goal

pub returns : goal.returns
returns c = loaded_is_not_asked
