use Rattle.std.proofs.Common.{◌≡◌, ◌∙◌, ◌+◌, ap, sym, subst, false, [], arith, rules, length, Ok, Err, pos}
use Rattle.std.proofs.lemmas.Result.{err_from_is_err_and}
use Rattle.std.proofs.lemmas.List.{length-map}
use Rattle.lua_basic.specs.LuaHeapHeap.{table_at}
use Rattle.lua_basic.specs.LuaStoreSeen.{StoreView, seen}
use Rattle.lua_basic.specs.Seen.{values_seen, Paid}
use Rattle.lua_basic.specs.LuaMeaningTableLibrary.{order_charge, put_from, put_charge, in_order, value_cmp}
use Rattle.lua_tables.proofs.Taken.{paid-short, paid-values}
use Rattle.lua_tables.proofs.Moved.{put-gives, sort-charge, sort-writable}
use Rattle.lua_tables.proofs.sorting.sort_values.Goals as goal

pub returns-in_err-take_sort-clause-answer : goal.returns-in_err-take_sort-clause-answer
returns-in_err-take_sort-clause-answer c =
    let p = err_from_is_err_and c.from_residual.result c.from_residual.ensures.1 in
    let texts = c.args.store.now.texts in
    let h = c.args.store.now.heap in
    let vs = values_seen texts c.args.values.now in
    let writable : (table_at h c.args.table.at).frozen ≡ false = search rules in
    let size = length-map c.args.values.now (seen texts) in
    let whole = sort-writable c.args.table.at vs h writable in
    let put = sort-charge (table_at h c.args.table.at).entries vs c.requires.read in
    let cost : order_charge (length c.args.values.now) + length c.args.values.now ≡ order_charge (length vs) + put_charge (pos 1) (in_order value_cmp vs) (table_at h c.args.table.at).entries =
    ap (λ n. order_charge n + n) (sym size) ∙ ap (λ n. order_charge (length vs) + n) (sym put) in
    subst (λ q. Paid q c.args.store.now c.args.left.now c.args.store.now c.take_sort.new.left c.from_residual.result) (sym whole)
    (paid-short (order_charge (length c.args.values.now) + length c.args.values.now) _ c.args.store.now c.args.left.now c.take_sort.new.left _ c.from_residual.result (omega (arith, cost)) c.in_err-take_sort.ensures (p.1 ∙ ap Err p.2))

pub put_from-requires-clause-writable : goal.put_from-requires-clause-writable
put_from-requires-clause-writable c = search rules

pub returns-clause-answer : goal.returns-clause-answer
returns-clause-answer c =
    let texts = c.args.store.now.texts in
    let h = c.args.store.now.heap in
    let t = c.put_from.new.store in
    let vs = values_seen texts c.args.values.now in
    let writable : (table_at h c.args.table.at).frozen ≡ false = search rules in
    let size = length-map c.args.values.now (seen texts) in
    let whole = sort-writable c.args.table.at vs h writable in
    let put = sort-charge (table_at h c.args.table.at).entries vs c.requires.read in
    let cost : order_charge (length vs) + put_charge (pos 1) (in_order value_cmp vs) (table_at h c.args.table.at).entries ≡ order_charge (length c.args.values.now) + length c.args.values.now =
    ap (λ n. order_charge (length vs) + n) put ∙ ap (λ n. order_charge n + n) size in
    let values = ap (values_seen texts) c.as_slice.ensures ∙ c.in_ok-sorted.ensures.values in
    let heap = ap (λ (s : StoreView). s.heap) c.in_ok-put_from.ensures.put ∙ ap (λ xs. put_from (pos 1) xs c.args.table.at h) values in
    subst (λ q. Paid q c.args.store.now c.args.left.now t c.take_sort.new.left (Ok c.new-2.result)) (sym whole)
    (paid-values (order_charge (length c.args.values.now) + length c.args.values.now) _ c.args.store.now c.args.left.now t c.take_sort.new.left c.new-2.result c.in_ok-take_sort.ensures
    (put-gives _ _ _ t [] c.new-2.result cost heap (ap (values_seen t.texts) c.new-2.ensures)))
