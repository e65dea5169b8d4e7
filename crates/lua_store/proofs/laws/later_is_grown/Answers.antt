use Rattle.lua_store.proofs.Later.{later-grown}
use Rattle.lua_store.proofs.laws.later_is_grown.Goals as goal

pub returns : goal.returns
returns c = λ s t l. later-grown s t l
