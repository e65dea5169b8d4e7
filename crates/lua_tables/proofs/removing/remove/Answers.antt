use Rattle.std.proofs.Common.{◌≡◌, ◌∙◌, ap, refl, Err, subst, sym, pos, codes, rules, w64, to_z, of_z}
use Rattle.std.proofs.lemmas.Result.{err_from_is_err_and}
use Rattle.lua_basic.specs.LuaHeapHeap.{table_at}
use Rattle.lua_basic.specs.LuaHeapTable.{border}
use Rattle.lua_basic.specs.LuaMeaningArguments.{number_or}
use Rattle.lua_basic.specs.Seen.{values_seen, Free, Paid}
use Rattle.lua_basic.proofs.Found.{stopped, found, for_nothing}
use Rattle.lua_basic.specs.LuaMeaningTableLibrary.{remove_at}
use Rattle.lua_tables.proofs.removing.remove.Goals as goal

pub number_or-requires : goal.number_or-requires
number_or-requires c = rw c.in_ok-table.ensures.same (c.rest.ensures.of c.args.store.now c.requires)

pub returns-in_err-table-clause-answer : goal.returns-in_err-table-clause-answer
returns-in_err-table-clause-answer c =
    let p = err_from_is_err_and c.from_residual.result c.from_residual.ensures.1 in
    for_nothing _ c.args.store.now c.a_table.new.store c.args.left.now c.from_residual.result
    (stopped _ _ _ c.args.store.now c.a_table.new.store c.in_err-table.field-0.0 c.from_residual.result c.in_err-table.ensures.refused refl (p.1 ∙ ap Err p.2))

pub returns-in_err-place-clause-answer : goal.returns-in_err-place-clause-answer
returns-in_err-place-clause-answer c =
    let p = err_from_is_err_and c.from_residual-in_err-place.result c.from_residual-in_err-place.ensures.1 in
    let whole : to_z w64 (of_z w64 c.border-border.result) ≡ c.border-border.result = search rules in
    let texts = c.args.store.now.texts in
    let h = c.args.store.now.heap in
    let table = found _ _ c.in_ok-table.table.at h _ c.in_ok-table.ensures.found refl in
    let edge : c.border-border.result ≡ pos (border (table_at h c.in_ok-table.table.at).entries) = rw c.in_ok-table.ensures.same at c.border-border.ensures in
    let none = rw (c.in_ok-table.ensures.same, whole) at c.in_err-place.ensures.refused in
    for_nothing _ c.args.store.now c.number_or.new.store c.args.left.now c.from_residual-in_err-place.result
    (subst (λ q. Free q c.number_or.new.store c.from_residual-in_err-place.result) (sym table)
    (stopped _ _ _ c.args.store.now c.number_or.new.store c.in_err-place.field-0.0 c.from_residual-in_err-place.result none
    (ap (λ z. number_or z 2 (codes "remove") (values_seen texts c.rest.result.now)) edge ∙ ap (number_or (pos (border (table_at h c.in_ok-table.table.at).entries)) 2 (codes "remove")) (c.rest.ensures.values texts)) (p.1 ∙ ap Err p.2)))

pub returns-clause-answer : goal.returns-clause-answer
returns-clause-answer c =
    let whole : to_z w64 (of_z w64 c.border-border.result) ≡ c.border-border.result = search rules in
    let at_ : to_z w64 (of_z w64 c.in_ok-place.place) ≡ c.in_ok-place.place = search rules in
    let texts = c.args.store.now.texts in
    let h = c.args.store.now.heap in
    let t = c.in_ok-table.table.at in
    let table = found _ _ t h _ c.in_ok-table.ensures.found refl in
    let edge : c.border-border.result ≡ pos (border (table_at h t).entries) = rw c.in_ok-table.ensures.same at c.border-border.ensures in
    let is = rw (c.in_ok-table.ensures.same, whole) at c.in_ok-place.ensures.found in
    let place = found _ _ c.in_ok-place.place h (λ z. remove_at t z h) is
    (ap (λ z. number_or z 2 (codes "remove") (values_seen texts c.rest.result.now)) edge ∙ ap (number_or (pos (border (table_at h t).entries)) 2 (codes "remove")) (c.rest.ensures.values texts)) in
    let answer = rw (c.in_ok-place.ensures.same ∙ c.in_ok-table.ensures.same, at_) at c.remove_at.ensures.answer in
    subst (λ q. Paid q c.args.store.now c.args.left.now c.remove_at.new.store c.remove_at.new.left c.remove_at.result) (sym (table ∙ place)) answer
