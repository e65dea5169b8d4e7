use Rattle.std.proofs.Common.{◌∙◌, ap, refl, Err}
use Rattle.std.proofs.lemmas.Result.{err_from_is_err_and}
use Rattle.lua_basic.proofs.Found.{stopped, found}
use Rattle.lua_basic.proofs.raw.raw_get.Goals as goal

pub get-value-requires-clause-key : goal.get-value-requires-clause-key
get-value-requires-clause-key c = rw c.in_ok-table.ensures.same (c.second.ensures.of c.args.store.now c.requires)

pub returns-in_err-table-clause-answer : goal.returns-in_err-table-clause-answer
returns-in_err-table-clause-answer c =
    let p = err_from_is_err_and c.from_residual.result c.from_residual.ensures.1 in
    stopped _ _ _ c.args.store.now c.a_table.new.store c.in_err-table.field-0.0 c.from_residual.result c.in_err-table.ensures.refused refl (p.1 ∙ ap Err p.2)

pub returns-clause-answer : goal.returns-clause-answer
returns-clause-answer c =
    rw (c.in_ok-values.ensures, c.get-value.ensures.value, c.in_ok-table.ensures.same, c.second.ensures.value c.args.store.now.texts)
    (found _ _ c.in_ok-table.table.at c.args.store.now.heap _ c.in_ok-table.ensures.found refl)
