use Rattle.std.proofs.Common.{◌≡◌, ◌∙◌, ap, refl, Err, subst, sym, pos, codes, rules, w64, to_z, of_z}
use Rattle.std.proofs.lemmas.Result.{err_from_is_err_and}
use Rattle.lua_basic.specs.LuaHeapHeap.{table_at}
use Rattle.lua_basic.specs.LuaHeapTable.{border}
use Rattle.lua_basic.specs.LuaMeaningValues as meaning
use Rattle.lua_basic.specs.LuaMeaningArguments.{number_or}
use Rattle.lua_basic.specs.Seen.{values_seen, Free, Paid}
use Rattle.lua_basic.specs.Arguments.{text_bytes}
use Rattle.lua_basic.proofs.Found.{stopped, found, for_nothing}
use Rattle.lua_basic.specs.LuaMeaningChecks.{text_or}
use Rattle.lua_basic.specs.LuaMeaningTableLibrary.{concat_between}
use Rattle.lua_tables.proofs.joining.concat.Goals as goal

pub text_or-requires : goal.text_or-requires
text_or-requires c = rw c.in_ok-table.ensures.same (c.rest-others.ensures.of c.args.store.now c.requires)

pub number_or-requires : goal.number_or-requires
number_or-requires c = rw (c.in_ok-separator.ensures.same ∙ c.in_ok-table.ensures.same) (c.rest-places.ensures.of c.args.store.now (c.rest-others.ensures.of c.args.store.now c.requires))

pub number_or-requires-2 : goal.number_or-requires-2
number_or-requires-2 c =
    rw (c.in_ok-first.ensures.same ∙ c.in_ok-separator.ensures.same ∙ c.in_ok-table.ensures.same)
    (c.rest.ensures.of c.args.store.now (c.rest-places.ensures.of c.args.store.now (c.rest-others.ensures.of c.args.store.now c.requires)))

pub returns-in_err-table-clause-answer : goal.returns-in_err-table-clause-answer
returns-in_err-table-clause-answer c =
    let p = err_from_is_err_and c.from_residual.result c.from_residual.ensures.1 in
    for_nothing _ c.args.store.now c.a_table.new.store c.args.left.now c.from_residual.result
    (stopped _ _ _ c.args.store.now c.a_table.new.store c.in_err-table.field-0.0 c.from_residual.result c.in_err-table.ensures.refused refl (p.1 ∙ ap Err p.2))

pub returns-in_err-separator-clause-answer : goal.returns-in_err-separator-clause-answer
returns-in_err-separator-clause-answer c =
    let p = err_from_is_err_and c.from_residual-in_err-separator.result c.from_residual-in_err-separator.ensures.1 in
    let table = found _ _ c.in_ok-table.table.at c.args.store.now.heap _ c.in_ok-table.ensures.found refl in
    let none = rw c.in_ok-table.ensures.same at c.in_err-separator.ensures.refused in
    for_nothing _ c.args.store.now c.text_or.new.store c.args.left.now c.from_residual-in_err-separator.result
    (subst (λ q. Free q c.text_or.new.store c.from_residual-in_err-separator.result) (sym table)
    (stopped _ _ _ c.args.store.now c.text_or.new.store c.in_err-separator.field-0.0 c.from_residual-in_err-separator.result none
    (ap (text_or (codes "") 2 (codes "concat")) (c.rest-others.ensures.values c.args.store.now.texts)) (p.1 ∙ ap Err p.2)))

pub returns-in_err-first-clause-answer : goal.returns-in_err-first-clause-answer
returns-in_err-first-clause-answer c =
    let p = err_from_is_err_and c.from_residual-in_err-first.result c.from_residual-in_err-first.ensures.1 in
    let texts = c.args.store.now.texts in
    let h = c.args.store.now.heap in
    let table = found _ _ c.in_ok-table.table.at h _ c.in_ok-table.ensures.found refl in
    let is = rw c.in_ok-table.ensures.same at c.in_ok-separator.ensures.found in
    let separator = found _ _ (text_bytes c.in_ok-separator.separator) h _ is (ap (text_or (codes "") 2 (codes "concat")) (c.rest-others.ensures.values texts)) in
    let places = c.rest-places.ensures.values texts ∙ ap meaning.rest (c.rest-others.ensures.values texts) in
    let none = rw (c.in_ok-separator.ensures.same ∙ c.in_ok-table.ensures.same) at c.in_err-first.ensures.refused in
    for_nothing _ c.args.store.now c.number_or.new.store c.args.left.now c.from_residual-in_err-first.result
    (subst (λ q. Free q c.number_or.new.store c.from_residual-in_err-first.result) (sym (table ∙ separator))
    (stopped _ _ _ c.args.store.now c.number_or.new.store c.in_err-first.field-0.0 c.from_residual-in_err-first.result none
    (ap (number_or (pos 1) 3 (codes "concat")) places) (p.1 ∙ ap Err p.2)))

pub returns-in_err-last-clause-answer : goal.returns-in_err-last-clause-answer
returns-in_err-last-clause-answer c =
    let p = err_from_is_err_and c.from_residual-in_err-last.result c.from_residual-in_err-last.ensures.1 in
    let whole : to_z w64 (of_z w64 c.border-border.result) ≡ c.border-border.result = search rules in
    let texts = c.args.store.now.texts in
    let h = c.args.store.now.heap in
    let same = c.in_ok-first.ensures.same ∙ c.in_ok-separator.ensures.same ∙ c.in_ok-table.ensures.same in
    let table = found _ _ c.in_ok-table.table.at h _ c.in_ok-table.ensures.found refl in
    let is = rw c.in_ok-table.ensures.same at c.in_ok-separator.ensures.found in
    let separator = found _ _ (text_bytes c.in_ok-separator.separator) h _ is (ap (text_or (codes "") 2 (codes "concat")) (c.rest-others.ensures.values texts)) in
    let places = c.rest-places.ensures.values texts ∙ ap meaning.rest (c.rest-others.ensures.values texts) in
    let from = rw (c.in_ok-separator.ensures.same ∙ c.in_ok-table.ensures.same) at c.in_ok-first.ensures.found in
    let first = found _ _ c.in_ok-first.first h _ from (ap (number_or (pos 1) 3 (codes "concat")) places) in
    let edge : c.border-border.result ≡ pos (border (table_at h c.in_ok-table.table.at).entries) = rw same at c.border-border.ensures in
    let given = c.rest.ensures.values texts ∙ ap meaning.rest places in
    let none = rw (same, whole) at c.in_err-last.ensures.refused in
    for_nothing _ c.args.store.now c.number_or-2.new.store c.args.left.now c.from_residual-in_err-last.result
    (subst (λ q. Free q c.number_or-2.new.store c.from_residual-in_err-last.result) (sym (table ∙ separator ∙ first))
    (stopped _ _ _ c.args.store.now c.number_or-2.new.store c.in_err-last.field-0.0 c.from_residual-in_err-last.result none
    (ap (λ z. number_or z 4 (codes "concat") (values_seen texts c.rest.result.now)) edge ∙ ap (number_or (pos (border (table_at h c.in_ok-table.table.at).entries)) 4 (codes "concat")) given) (p.1 ∙ ap Err p.2)))

pub returns-clause-answer : goal.returns-clause-answer
returns-clause-answer c =
    let whole : to_z w64 (of_z w64 c.border-border.result) ≡ c.border-border.result = search rules in
    let from_ : to_z w64 (of_z w64 c.in_ok-first.first) ≡ c.in_ok-first.first = search rules in
    let to : to_z w64 (of_z w64 c.in_ok-last.last) ≡ c.in_ok-last.last = search rules in
    let texts = c.args.store.now.texts in
    let h = c.args.store.now.heap in
    let t = c.in_ok-table.table.at in
    let same = c.in_ok-first.ensures.same ∙ c.in_ok-separator.ensures.same ∙ c.in_ok-table.ensures.same in
    let table = found _ _ t h _ c.in_ok-table.ensures.found refl in
    let is = rw c.in_ok-table.ensures.same at c.in_ok-separator.ensures.found in
    let separator = found _ _ (text_bytes c.in_ok-separator.separator) h _ is (ap (text_or (codes "") 2 (codes "concat")) (c.rest-others.ensures.values texts)) in
    let places = c.rest-places.ensures.values texts ∙ ap meaning.rest (c.rest-others.ensures.values texts) in
    let from = rw (c.in_ok-separator.ensures.same ∙ c.in_ok-table.ensures.same) at c.in_ok-first.ensures.found in
    let first = found _ _ c.in_ok-first.first h _ from (ap (number_or (pos 1) 3 (codes "concat")) places) in
    let edge : c.border-border.result ≡ pos (border (table_at h t).entries) = rw same at c.border-border.ensures in
    let given = c.rest.ensures.values texts ∙ ap meaning.rest places in
    let ends = rw (same, whole) at c.in_ok-last.ensures.found in
    let last = found _ _ c.in_ok-last.last h (λ j. concat_between t (text_bytes c.in_ok-separator.separator) c.in_ok-first.first j h) ends
    (ap (λ z. number_or z 4 (codes "concat") (values_seen texts c.rest.result.now)) edge ∙ ap (number_or (pos (border (table_at h t).entries)) 4 (codes "concat")) given) in
    let answer = rw (c.in_ok-last.ensures.same ∙ same, from_, to, c.as_slice.ensures) at c.concat_between.ensures.answer in
    subst (λ q. Paid q c.args.store.now c.args.left.now c.concat_between.new.store c.concat_between.new.left c.concat_between.result) (sym (table ∙ separator ∙ first ∙ last)) answer
