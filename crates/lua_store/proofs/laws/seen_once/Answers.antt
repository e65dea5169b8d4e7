use Rattle.lua_store.proofs.Equal.{seen-one}
use Rattle.lua_store.proofs.laws.seen_once.Goals as goal

pub returns : goal.returns
returns c = λ s a b once h k e. seen-one s a b once h k e
