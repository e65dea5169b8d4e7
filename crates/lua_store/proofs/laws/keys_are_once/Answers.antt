use Rattle.std.proofs.Common.{subst}
use Rattle.lua_store.specs.Laws.{KeysAreOnce}
use Rattle.lua_store.proofs.Keys.{keys-once}
use Rattle.lua_store.proofs.laws.keys_are_once.Goals as goal

pub returns : goal.returns
returns c = subst KeysAreOnce c.store.view_is (keys-once _ c.store.invariant)
