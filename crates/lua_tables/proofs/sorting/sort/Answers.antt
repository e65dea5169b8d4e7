use Rattle.std.proofs.Common.{◌∙◌, ap, refl, Err, subst, sym, codes}
use Rattle.std.proofs.lemmas.Result.{err_from_is_err_and}
use Rattle.lua_basic.specs.LuaHeapValue as kind
use Rattle.lua_basic.specs.Seen.{Free, Paid}
use Rattle.lua_basic.proofs.Found.{stopped, found, for_nothing}
use Rattle.lua_basic.specs.LuaMeaningChecks.{a_nil}
use Rattle.lua_basic.specs.LuaMeaningTableLibrary.{sort_table}
use Rattle.lua_tables.proofs.sorting.sort.Goals as goal

pub a_nil-requires : goal.a_nil-requires
a_nil-requires c = rw c.in_ok-table.ensures.same (c.rest.ensures.of c.args.store.now c.requires)

pub returns-in_err-table-clause-answer : goal.returns-in_err-table-clause-answer
returns-in_err-table-clause-answer c =
    let p = err_from_is_err_and c.from_residual.result c.from_residual.ensures.1 in
    for_nothing _ c.args.store.now c.a_table.new.store c.args.left.now c.from_residual.result
    (stopped _ _ _ c.args.store.now c.a_table.new.store c.in_err-table.field-0.0 c.from_residual.result c.in_err-table.ensures.refused refl (p.1 ∙ ap Err p.2))

pub returns-in_err-a_nil-clause-answer : goal.returns-in_err-a_nil-clause-answer
returns-in_err-a_nil-clause-answer c =
    let p = err_from_is_err_and c.from_residual-in_err-a_nil.result c.from_residual-in_err-a_nil.ensures.1 in
    let texts = c.args.store.now.texts in
    let table = found _ _ c.in_ok-table.table.at c.args.store.now.heap _ c.in_ok-table.ensures.found refl in
    let none = rw c.in_ok-table.ensures.same at c.in_err-a_nil.ensures.refused in
    for_nothing _ c.args.store.now c.a_nil.new.store c.args.left.now c.from_residual-in_err-a_nil.result
    (subst (λ q. Free q c.a_nil.new.store c.from_residual-in_err-a_nil.result) (sym table)
    (stopped _ _ _ c.args.store.now c.a_nil.new.store c.in_err-a_nil.field-0.0 c.from_residual-in_err-a_nil.result none
    (ap (a_nil 2 (codes "sort")) (c.rest.ensures.values texts)) (p.1 ∙ ap Err p.2)))

pub returns-clause-answer : goal.returns-clause-answer
returns-clause-answer c =
    let texts = c.args.store.now.texts in
    let h = c.args.store.now.heap in
    let t = c.in_ok-table.table.at in
    let table = found _ _ t h _ c.in_ok-table.ensures.found refl in
    let is = rw c.in_ok-table.ensures.same at c.in_ok-a_nil.ensures.found in
    let none = found _ _ kind.Nil h (λ x. sort_table t h) is (ap (a_nil 2 (codes "sort")) (c.rest.ensures.values texts)) in
    let answer = rw (c.in_ok-a_nil.ensures.same ∙ c.in_ok-table.ensures.same) at c.sort_table.ensures.answer in
    subst (λ q. Paid q c.args.store.now c.args.left.now c.sort_table.new.store c.sort_table.new.left c.sort_table.result) (sym (table ∙ none)) answer
