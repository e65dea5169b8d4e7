use Rattle.std.proofs.Common.{sym, subst}
use Rattle.lua_store.specs.Parts.{IsOf}
use Rattle.lua_store.proofs.Changes.{set_table, table_place, on_ok, on_err, of_both, both_ok, named_ok, has-seen, nil-seen}
use Rattle.lua_store.proofs.store.Store.set.Goals as goal

pub invariant_of-self : goal.invariant_of-self
invariant_of-self c =
    let key = subst (λ s. IsOf s c.args.key) (sym c.self.view_is) c.requires.key in
    let value = subst (λ s. IsOf s c.args.value) (sym c.self.view_is) c.requires.value in
    let became = set_table _ c.self.invariant c.args.id.at c.args.key c.args.value (table_place _ _ c.self.view_is c.args.id c.requires.table) key value in
    let named = named_ok c.set_entry.result _ c.args.key c.set_entry.ensures.frozen c.set_entry.ensures.not_a_key in
    let set = both_ok _ _ c.set_entry.result named (rw c.place.ensures at c.set_entry.ensures.ok) in
    of_both c.set_entry.result
    (on_ok c.set_entry.result set (λ is. rw is.1 (became is.0).whole))
    (on_err c.set_entry.result c.set_entry.ensures.err (λ is. rw is c.self.invariant))

pub returns-clause-ok : goal.returns-clause-ok
returns-clause-ok c =
    let key = subst (λ s. IsOf s c.args.key) (sym c.self.view_is) c.requires.key in
    let value = subst (λ s. IsOf s c.args.value) (sym c.self.view_is) c.requires.value in
    let became = set_table _ c.self.invariant c.args.id.at c.args.key c.args.value (table_place _ _ c.self.view_is c.args.id c.requires.table) key value in
    let named = named_ok c.set_entry.result _ c.args.key c.set_entry.ensures.frozen c.set_entry.ensures.not_a_key in
    let set = both_ok _ _ c.set_entry.result named (rw c.place.ensures at c.set_entry.ensures.ok) in
    on_ok c.set_entry.result set (λ is. rw (← c.self.view_is, is.1) (became is.0).shown)

pub returns-clause-made : goal.returns-clause-made
returns-clause-made c =
    let key = subst (λ s. IsOf s c.args.key) (sym c.self.view_is) c.requires.key in
    let has = has-seen _ c.self.invariant c.args.id.at c.args.key (table_place _ _ c.self.view_is c.args.id c.requires.table) key in
    rw (← c.self.view_is, has, nil-seen c.self.inside.texts c.args.value) (rw c.place.ensures at c.set_entry.ensures.made)

pub returns-clause-memory : goal.returns-clause-memory
returns-clause-memory c e =
    let key = subst (λ s. IsOf s c.args.key) (sym c.self.view_is) c.requires.key in
    let has = has-seen _ c.self.invariant c.args.id.at c.args.key (table_place _ _ c.self.view_is c.args.id c.requires.table) key in
    rw (← c.self.view_is, has) (rw c.place.ensures at (c.set_entry.ensures.memory e))
