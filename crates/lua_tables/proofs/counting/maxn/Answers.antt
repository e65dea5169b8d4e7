use Rattle.std.proofs.Common.{◌≡◌, ◌∙◌, ap, refl, Ok, Err, subst, sym, length, pos, [], ◌∷◌, rules, w64, to_z, of_z}
use Rattle.std.proofs.lemmas.Result.{err_from_is_err_and}
use Rattle.lua_basic.specs.LuaHeapValue as kind
use Rattle.lua_basic.specs.LuaHeapHeap.{table_at}
use Rattle.lua_basic.specs.LuaMeaningArguments.{costs}
use Rattle.lua_basic.specs.LuaStoreSeen.{StoreView}
use Rattle.lua_basic.specs.Seen.{values_seen, Paid}
use Rattle.lua_basic.proofs.Found.{stopped, found, for_nothing}
use Rattle.lua_basic.specs.LuaMeaningTableLibrary.{greatest_key, maxn}
use Rattle.lua_tables.proofs.Taken.{paid-values}
use Rattle.lua_tables.proofs.Moved.{put-gives}
use Rattle.lua_tables.proofs.Reading.{paid-counted}
use Rattle.lua_tables.proofs.counting.maxn.Goals as goal

pub returns-in_err-table-clause-answer : goal.returns-in_err-table-clause-answer
returns-in_err-table-clause-answer c =
    let p = err_from_is_err_and c.from_residual.result c.from_residual.ensures.1 in
    for_nothing _ c.args.store.now c.a_table.new.store c.args.left.now c.from_residual.result
    (stopped _ _ _ c.args.store.now c.a_table.new.store c.in_err-table.field-0.0 c.from_residual.result c.in_err-table.ensures.refused refl (p.1 ∙ ap Err p.2))

pub returns-in_err-greatest-clause-answer : goal.returns-in_err-greatest-clause-answer
returns-in_err-greatest-clause-answer c =
    let p = err_from_is_err_and c.from_residual-in_err-greatest.result c.from_residual-in_err-greatest.ensures.1 in
    let h = c.args.store.now.heap in
    let t = c.in_ok-table.table.at in
    let es = (table_at h t).entries in
    let table = found _ _ t h (λ u. costs (length (table_at h u).entries) h (kind.Number (greatest_key (pos 0) (table_at h u).entries) ∷ [])) c.in_ok-table.ensures.found refl in
    let s = c.a_table.new.store in
    let size = ap (λ (x : StoreView). length (table_at x.heap t).entries) (sym c.in_ok-table.ensures.same) in
    subst (λ x. Paid (maxn (values_seen c.args.store.now.texts c.args.args.now) h) c.args.store.now c.args.left.now x c.greatest_key.new.left c.from_residual-in_err-greatest.result) (sym c.in_ok-table.ensures.same)
    (subst (λ q. Paid q c.args.store.now c.args.left.now c.args.store.now c.greatest_key.new.left c.from_residual-in_err-greatest.result) (sym table)
    (paid-counted _ (table_at s.heap t).entries c.args.store.now c.args.left.now c.greatest_key.new.left _ c.from_residual-in_err-greatest.result size c.in_err-greatest.ensures (p.1 ∙ ap Err p.2)))

pub returns-clause-answer : goal.returns-clause-answer
returns-clause-answer c =
    let h = c.args.store.now.heap in
    let t = c.in_ok-table.table.at in
    let s = c.a_table.new.store in
    let es = (table_at h t).entries in
    let table = found _ _ t h (λ u. costs (length (table_at h u).entries) h (kind.Number (greatest_key (pos 0) (table_at h u).entries) ∷ [])) c.in_ok-table.ensures.found refl in
    let counted = rw c.in_ok-table.ensures.same at c.in_ok-greatest.ensures in
    let whole : to_z w64 (of_z w64 c.in_ok-greatest.greatest) ≡ c.in_ok-greatest.greatest = search rules in
    let values = ap (values_seen s.texts) (rw whole at c.in_ok-values.ensures) ∙ ap (λ z. kind.Number z ∷ []) (sym counted.0) in
    subst (λ q. Paid q c.args.store.now c.args.left.now s c.greatest_key.new.left (Ok c.in_ok-values.values)) (sym table)
    (paid-values (length es) _ c.args.store.now c.args.left.now s c.greatest_key.new.left c.in_ok-values.values counted.1
    (put-gives _ _ _ s _ c.in_ok-values.values refl (ap (λ (x : StoreView). x.heap) c.in_ok-table.ensures.same) values))
