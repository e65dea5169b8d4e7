use Rattle.lua_token_laws.proofs.Carried.{twins_spell}
use Rattle.lua_token_laws.proofs.twins.twins_spell.Goals as goal

pub returns : goal.returns
returns c = twins_spell
