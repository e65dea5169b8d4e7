use Rattle.std.proofs.Common.{subst}
use Rattle.lua_store.specs.Laws.{NamesWhatIsThere}
use Rattle.lua_store.proofs.There.{names-there}
use Rattle.lua_store.proofs.laws.names_what_is_there.Goals as goal

pub returns : goal.returns
returns c = subst NamesWhatIsThere c.store.view_is (names-there _ c.store.invariant)
