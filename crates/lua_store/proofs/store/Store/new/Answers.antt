use Rattle.lua_store.proofs.Changes.{whole-nothing}
use Rattle.lua_store.proofs.store.Store.new.Goals as goal

pub invariant_of-result : goal.invariant_of-result
invariant_of-result c = rw (c.new.ensures, c.new-2.ensures.items, c.new-3.ensures.items, c.new-4.ensures, c.new-5.ensures.items) whole-nothing
