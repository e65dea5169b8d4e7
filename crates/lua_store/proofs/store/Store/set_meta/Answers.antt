use Rattle.std.proofs.Common.{sym, subst}
use Rattle.lua_store.specs.Parts.{IsOf}
use Rattle.lua_store.proofs.Changes.{set_meta_table, table_place}
use Rattle.lua_store.proofs.store.Store.set_meta.Goals as goal

pub invariant_of-self : goal.invariant_of-self
invariant_of-self c =
    let of = subst (λ s. IsOf s c.args.meta) (sym c.self.view_is) c.requires.meta in
    rw (c.set_meta_of.ensures, c.place.ensures) (set_meta_table _ c.self.invariant c.args.id.at c.args.meta (table_place _ _ c.self.view_is c.args.id c.requires.table) of).whole

pub returns-clause-set : goal.returns-clause-set
returns-clause-set c =
    let of = subst (λ s. IsOf s c.args.meta) (sym c.self.view_is) c.requires.meta in
    rw (← c.self.view_is, c.set_meta_of.ensures, c.place.ensures) (set_meta_table _ c.self.invariant c.args.id.at c.args.meta (table_place _ _ c.self.view_is c.args.id c.requires.table) of).shown
