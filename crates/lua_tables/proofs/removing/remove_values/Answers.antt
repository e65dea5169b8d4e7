use Rattle.std.proofs.Common.{◌≡◌, ◌∙◌, ◌++◌, ◌+◌, ap, sym, subst, [], ◌∷◌, arith, Err, w64}
use Rattle.std.proofs.lemmas.Int.{to_z-of_z, ints}
use Rattle.std.proofs.lemmas.Result.{err_from_is_err_and}
use Rattle.lua_basic.specs.LuaHeapHeap.{table_at}
use Rattle.lua_basic.specs.LuaMeaningValues.{first}
use Rattle.lua_basic.specs.LuaMeaningBasic.{entries_from}
use Rattle.lua_basic.specs.LuaStoreSeen.{StoreView, seen}
use Rattle.lua_basic.specs.Seen.{values_seen, AllOf}
use Rattle.lua_basic.proofs.Lists.{all-with}
use Rattle.lua_basic.specs.LuaMeaningTableLibrary.{remove_values}
use Rattle.lua_tables.proofs.Taken.{paid-short, paid-values}
use Rattle.lua_tables.proofs.Moved.{put-gives, remove-charge, moved-seen, moved-length, first-read}
use Rattle.lua_tables.proofs.removing.remove_values.Goals as goal

pub returns-in_err-take_both-clause-answer : goal.returns-in_err-take_both-clause-answer
returns-in_err-take_both-clause-answer c =
    let p = err_from_is_err_and c.from_residual.result c.from_residual.ensures.1 in
    let h = c.args.store.now.heap in
    let es = (table_at h c.args.table.at).entries in
    let cost = remove-charge es c.args.place c.args.count c.requires.low c.requires.high c.requires.count in
    paid-short (c.args.count + c.args.count) (remove_values c.args.table.at c.args.place (entries_from c.args.count c.args.place es) h) c.args.store.now c.args.left.now c.take_both.new.left _ c.from_residual.result
    (omega (arith, cost)) c.in_err-take_both.ensures (p.1 ∙ ap Err p.2)

pub put_from-requires-clause-values : goal.put_from-requires-clause-values
put_from-requires-clause-values c =
    let s = c.args.store.now in
    let read = c.in_ok-read_onto.ensures.of (subst (AllOf s) (sym c.new-values.ensures) tt) in
    c.rest.ensures.of s (subst (AllOf s) (sym (c.as_slice.ensures ∙ c.in_ok-push.ensures.ok)) (all-with s c.read_onto.new.values _ read tt))

pub put_from-requires-clause-within : goal.put_from-requires-clause-within
put_from-requires-clause-within c =
    let place = to_z-of_z w64 c.args.place c.ranges.place in
    let texts = c.args.store.now.texts in
    let es = (table_at c.args.store.now.heap c.args.table.at).entries in
    let read = rw place at c.in_ok-read_onto.ensures.values in
    let all = read ∙ ap (λ xs. values_seen texts xs ++ entries_from c.args.count c.args.place es) c.new-values.ensures in
    let moved = moved-seen texts es c.args.place c.args.count c.read_onto.new.values c.as_slice.result.now c.rest.result.now c.requires.high c.requires.count all (c.as_slice.ensures ∙ c.in_ok-push.ensures.ok) (c.rest.ensures.values texts) in
    let size = moved-length texts es c.args.place c.args.count c.rest.result.now c.requires.high c.requires.count moved in
    rw place (omega (arith, ints, size, c.requires.within))

pub returns-clause-answer : goal.returns-clause-answer
returns-clause-answer c =
    let place = to_z-of_z w64 c.args.place c.ranges.place in
    let texts = c.args.store.now.texts in
    let h = c.args.store.now.heap in
    let t = c.put_from.new.store in
    let es = (table_at h c.args.table.at).entries in
    let vs = entries_from c.args.count c.args.place es in
    let read = rw place at c.in_ok-read_onto.ensures.values in
    let all = read ∙ ap (λ xs. values_seen texts xs ++ vs) c.new-values.ensures in
    let moved = moved-seen texts es c.args.place c.args.count c.read_onto.new.values c.as_slice.result.now c.rest.result.now c.requires.high c.requires.count all (c.as_slice.ensures ∙ c.in_ok-push.ensures.ok) (c.rest.ensures.values texts) in
    let put = rw (place, moved) at c.in_ok-put_from.ensures.put in
    let same : t.texts ≡ texts = ap (λ (s : StoreView). s.texts) put in
    let value = rw place at c.value_behind-value.ensures.value in
    let one = first-read es c.args.place c.args.count (seen texts c.value_behind-value.result) c.requires.high c.requires.count value in
    let given = ap (values_seen t.texts) c.in_ok-given.ensures ∙ ap (λ ts. seen ts c.value_behind-value.result ∷ []) same ∙ ap (λ v. v ∷ []) one in
    let cost = remove-charge es c.args.place c.args.count c.requires.low c.requires.high c.requires.count in
    paid-values (c.args.count + c.args.count) (remove_values c.args.table.at c.args.place vs h) c.args.store.now c.args.left.now t c.take_both.new.left c.in_ok-given.given c.in_ok-take_both.ensures
    (put-gives _ _ _ t (first vs ∷ []) c.in_ok-given.given cost (ap (λ (s : StoreView). s.heap) put) given)
