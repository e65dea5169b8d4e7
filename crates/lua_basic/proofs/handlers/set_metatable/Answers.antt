use Rattle.std.proofs.Common.{◌∙◌, ap, refl, Err, subst, sym}
use Rattle.std.proofs.lemmas.Result.{err_from_is_err_and}
use Rattle.lua_store.specs.Seen.{seen}
use Rattle.lua_meaning.specs.Basic.{a_metatable, with_metatable}
use Rattle.lua_basic.specs.Seen.{Free}
use Rattle.lua_basic.proofs.Found.{stopped, found}
use Rattle.lua_basic.proofs.handlers.set_metatable.Goals as goal

pub a_metatable-requires : goal.a_metatable-requires
a_metatable-requires c = rw c.in_ok-table.ensures.same (c.rest.ensures.of c.args.store.now c.requires)

pub returns-in_err-table-clause-answer : goal.returns-in_err-table-clause-answer
returns-in_err-table-clause-answer c =
    let p = err_from_is_err_and c.from_residual.result c.from_residual.ensures.1 in
    stopped _ _ _ c.args.store.now c.a_table.new.store c.in_err-table.field-0.0 c.from_residual.result c.in_err-table.ensures.refused refl (p.1 ∙ ap Err p.2)

pub returns-in_err-meta-clause-answer : goal.returns-in_err-meta-clause-answer
returns-in_err-meta-clause-answer c =
    let p = err_from_is_err_and c.from_residual-in_err-meta.result c.from_residual-in_err-meta.ensures.1 in
    let none = rw c.in_ok-table.ensures.same at c.in_err-meta.ensures.refused in
    subst (λ q. Free q c.a_metatable.new.store c.from_residual-in_err-meta.result) (sym (found _ _ c.in_ok-table.table.at c.args.store.now.heap _ c.in_ok-table.ensures.found refl))
    (stopped _ _ _ c.args.store.now c.a_metatable.new.store c.in_err-meta.field-0.0 c.from_residual-in_err-meta.result none (ap a_metatable (c.rest.ensures.values c.args.store.now.texts)) (p.1 ∙ ap Err p.2))

pub returns-clause-answer : goal.returns-clause-answer
returns-clause-answer c =
    let table = found _ _ c.in_ok-table.table.at c.args.store.now.heap _ c.in_ok-table.ensures.found refl in
    let is = rw c.in_ok-table.ensures.same at c.in_ok-meta.ensures.found in
    let meta = found _ _ (seen c.args.store.now.texts c.in_ok-meta.meta) c.args.store.now.heap (λ m. with_metatable c.in_ok-table.table.at m c.args.store.now.heap) is (ap a_metatable (c.rest.ensures.values c.args.store.now.texts)) in
    let same = c.in_ok-meta.ensures.same ∙ c.in_ok-table.ensures.same in
    let answer = rw same at c.with_metatable.ensures.answer in
    subst (λ q. Free q c.with_metatable.new.store c.with_metatable.result) (sym (table ∙ meta)) answer
