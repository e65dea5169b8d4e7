use Rattle.std.proofs.Common.{◌≡◌, ◌<◌, ◌≤◌, ◌∙◌, ap, refl, Err, subst, sym, codes, rules, arith, length, w64, to_z, of_z}
use Rattle.std.proofs.lemmas.Result.{err_from_is_err_and}
use Rattle.std.proofs.lemmas.List.{length-map}
use Rattle.lua_basic.specs.LuaMeaningArguments.{a_number}
use Rattle.lua_basic.specs.LuaMeaningValues as meaning
use Rattle.lua_basic.specs.LuaStoreSeen.{StoreView, seen}
use Rattle.lua_basic.specs.Seen.{values_seen, Free, Paid}
use Rattle.lua_basic.proofs.Found.{stopped, found, for_nothing}
use Rattle.lua_basic.specs.LuaMeaningTableLibrary.{insert_at}
use Rattle.lua_tables.proofs.Moved.{insert_form, two-arguments, three-arguments}
use Rattle.lua_tables.proofs.inserting.insert.Goals as goal

pub returns-in_err-table-clause-answer : goal.returns-in_err-table-clause-answer
returns-in_err-table-clause-answer c =
    let p = err_from_is_err_and c.from_residual.result c.from_residual.ensures.1 in
    for_nothing _ c.args.store.now c.a_table.new.store c.args.left.now c.from_residual.result
    (stopped _ _ _ c.args.store.now c.a_table.new.store c.in_err-table.field-0.0 c.from_residual.result c.in_err-table.ensures.refused refl (p.1 ∙ ap Err p.2))

pub append-requires-clause-value : goal.append-requires-clause-value
append-requires-clause-value c = rw c.in_ok-table.ensures.same (c.second.ensures.of c.args.store.now c.requires)

pub returns-then-args-le2-clause-answer : goal.returns-then-args-le2-clause-answer
returns-then-args-le2-clause-answer c =
    let texts = c.args.store.now.texts in
    let h = c.args.store.now.heap in
    let t = c.in_ok-table.table.at in
    let vs = values_seen texts c.args.args.now in
    let size = length-map c.args.args.now (seen texts) in
    let short : length c.args.args.now ≤ 2 = search rules in
    let table = found _ _ t h (λ u. insert_form u vs h) c.in_ok-table.ensures.found refl in
    let form = two-arguments t vs h (omega (arith, size, short)) in
    let answer = rw (c.in_ok-table.ensures.same, c.second.ensures.value texts) at c.append.ensures.answer in
    subst (λ q. Paid q c.args.store.now c.args.left.now c.append.new.store c.append.new.left c.append.result) (sym (table ∙ form)) answer

pub a_number-requires : goal.a_number-requires
a_number-requires c = rw c.in_ok-table.ensures.same (c.rest.ensures.of c.args.store.now c.requires)

pub returns-in_err-place-clause-answer : goal.returns-in_err-place-clause-answer
returns-in_err-place-clause-answer c =
    let p = err_from_is_err_and c.from_residual-in_err-place.result c.from_residual-in_err-place.ensures.1 in
    let texts = c.args.store.now.texts in
    let h = c.args.store.now.heap in
    let t = c.in_ok-table.table.at in
    let vs = values_seen texts c.args.args.now in
    let size = length-map c.args.args.now (seen texts) in
    let long : 2 < length c.args.args.now = search rules in
    let table = found _ _ t h (λ u. insert_form u vs h) c.in_ok-table.ensures.found refl in
    let form = three-arguments t vs h (omega (arith, size, long)) in
    let none = rw c.in_ok-table.ensures.same at c.in_err-place.ensures.refused in
    for_nothing _ c.args.store.now c.a_number.new.store c.args.left.now c.from_residual-in_err-place.result
    (subst (λ q. Free q c.a_number.new.store c.from_residual-in_err-place.result) (sym (table ∙ form))
    (stopped _ _ _ c.args.store.now c.a_number.new.store c.in_err-place.field-0.0 c.from_residual-in_err-place.result none (ap (a_number 2 (codes "insert")) (c.rest.ensures.values texts)) (p.1 ∙ ap Err p.2)))

pub insert_at-requires-clause-value : goal.insert_at-requires-clause-value
insert_at-requires-clause-value c = rw (c.in_ok-place.ensures.same ∙ c.in_ok-table.ensures.same) (c.third.ensures.of c.args.store.now c.requires)

pub returns-clause-answer : goal.returns-clause-answer
returns-clause-answer c =
    let at_ : to_z w64 (of_z w64 c.in_ok-place.place) ≡ c.in_ok-place.place = search rules in
    let texts = c.args.store.now.texts in
    let h = c.args.store.now.heap in
    let t = c.in_ok-table.table.at in
    let vs = values_seen texts c.args.args.now in
    let size = length-map c.args.args.now (seen texts) in
    let long : 2 < length c.args.args.now = search rules in
    let table = found _ _ t h (λ u. insert_form u vs h) c.in_ok-table.ensures.found refl in
    let form = three-arguments t vs h (omega (arith, size, long)) in
    let is = rw c.in_ok-table.ensures.same at c.in_ok-place.ensures.found in
    let place = found _ _ c.in_ok-place.place h (λ z. insert_at t z (meaning.third vs) h) is (ap (a_number 2 (codes "insert")) (c.rest.ensures.values texts)) in
    let s = c.args.store.now in
    let l = c.args.left.now in
    let t2 = c.insert_at.new.store in
    let l2 = c.insert_at.new.left in
    let stored = subst (λ (x : StoreView). Paid (insert_at t (to_z w64 (of_z w64 c.in_ok-place.place)) (seen x.texts c.third.result) x.heap) x l t2 l2 c.insert_at.result) (c.in_ok-place.ensures.same ∙ c.in_ok-table.ensures.same) c.insert_at.ensures.answer in
    let placed = subst (λ z. Paid (insert_at t z (seen texts c.third.result) h) s l t2 l2 c.insert_at.result) at_ stored in
    let answer = subst (λ v. Paid (insert_at t c.in_ok-place.place v h) s l t2 l2 c.insert_at.result) (c.third.ensures.value texts) placed in
    subst (λ q. Paid q s l t2 l2 c.insert_at.result) (sym (table ∙ form ∙ place)) answer
