use Rattle.std.proofs.Common.{◌≡◌, ◌+◌, ◌∙◌, ap, sym, ◌∷◌, [], arith, rules, Err, w64, to_z, of_z}
use Rattle.std.proofs.lemmas.Int.{to_z-of_z}
use Rattle.std.proofs.lemmas.Result.{err_from_is_err_and}
use Rattle.lua_basic.specs.LuaHeapHeap.{table_at}
use Rattle.lua_basic.specs.LuaMeaningBasic.{entries_from}
use Rattle.lua_basic.specs.LuaStoreSeen.{StoreView, seen}
use Rattle.lua_basic.specs.Seen.{values_seen}
use Rattle.lua_basic.specs.LuaMeaningTableLibrary.{put_charge, insert_fitting}
use Rattle.lua_tables.proofs.Taken.{paid-short, paid-values}
use Rattle.lua_tables.proofs.Moved.{insert-charge, put-gives}
use Rattle.lua_tables.proofs.inserting.insert_fitting.Goals as goal

pub returns-in_err-take_both-clause-answer : goal.returns-in_err-take_both-clause-answer
returns-in_err-take_both-clause-answer c =
    let p = err_from_is_err_and c.from_residual.result c.from_residual.ensures.1 in
    let place = to_z-of_z w64 c.args.place c.ranges.place in
    let texts = c.args.store.now.texts in
    let h = c.args.store.now.heap in
    let es = (table_at h c.args.table.at).entries in
    let v = seen texts c.args.value in
    let top = rw place at c.place_behind-top.ensures in
    let last = rw place at c.last_of-last.ensures.value in
    let whole : to_z w64 (of_z w64 c.place_behind-top.result) ≡ c.place_behind-top.result = search rules in
    let charge = rw whole at c.entry_charge-charge.ensures.charge in
    let cost = insert-charge es c.args.place c.place_behind-top.result c.args.moved c.entry_charge-charge.result v (seen texts c.last_of-last.result) c.requires.low c.requires.moved top last charge in
    let fits : c.args.moved + ((c.args.moved + 1) + c.entry_charge-charge.result) ≡ c.args.moved + put_charge c.args.place (v ∷ entries_from c.args.moved c.args.place es) es = sym cost in
    paid-short (c.args.moved + ((c.args.moved + 1) + c.entry_charge-charge.result)) (insert_fitting c.args.table.at c.args.place c.args.moved v h) c.args.store.now c.args.left.now c.take_both.new.left _ c.from_residual.result
    (omega (arith, fits)) c.in_err-take_both.ensures (p.1 ∙ ap Err p.2)

pub returns-clause-answer : goal.returns-clause-answer
returns-clause-answer c =
    let place = to_z-of_z w64 c.args.place c.ranges.place in
    let texts = c.args.store.now.texts in
    let h = c.args.store.now.heap in
    let es = (table_at h c.args.table.at).entries in
    let v = seen texts c.args.value in
    let t = c.put_inserted.new.store in
    let top = rw place at c.place_behind-top.ensures in
    let last = rw place at c.last_of-last.ensures.value in
    let whole : to_z w64 (of_z w64 c.place_behind-top.result) ≡ c.place_behind-top.result = search rules in
    let charge = rw whole at c.entry_charge-charge.ensures.charge in
    let cost = insert-charge es c.args.place c.place_behind-top.result c.args.moved c.entry_charge-charge.result v (seen texts c.last_of-last.result) c.requires.low c.requires.moved top last charge in
    let put = rw place at c.in_ok-put_inserted.ensures.put in
    paid-values (c.args.moved + ((c.args.moved + 1) + c.entry_charge-charge.result)) (insert_fitting c.args.table.at c.args.place c.args.moved v h) c.args.store.now c.args.left.now t c.take_both.new.left c.new.result c.in_ok-take_both.ensures
    (put-gives _ _ _ t [] c.new.result cost (ap (λ (s : StoreView). s.heap) put) (ap (values_seen t.texts) c.new.ensures))
