use Rattle.lua_store.proofs.Changes.{freeze_table, table_place}
use Rattle.lua_store.proofs.store.Store.freeze.Goals as goal

pub invariant_of-self : goal.invariant_of-self
invariant_of-self c = rw (c.freeze_table.ensures, c.place.ensures) (freeze_table _ c.self.invariant c.args.id.at (table_place _ _ c.self.view_is c.args.id c.requires)).whole

pub returns-clause-frozen : goal.returns-clause-frozen
returns-clause-frozen c = rw (← c.self.view_is, c.freeze_table.ensures, c.place.ensures) (freeze_table _ c.self.invariant c.args.id.at (table_place _ _ c.self.view_is c.args.id c.requires)).shown
