use Rattle.std.proofs.Common.{◌∙◌, ap, refl, Err}
use Rattle.std.proofs.lemmas.Result.{err_from_is_err_and}
use Rattle.lua_basic.proofs.Found.{stopped, found}
use Rattle.mw_frames.proofs.index.args_index.Goals as goal

pub returns-in_err-table-clause-answer : goal.returns-in_err-table-clause-answer
returns-in_err-table-clause-answer c =
    let p = err_from_is_err_and c.from_residual.result c.from_residual.ensures.1 in
    stopped _ _ _ c.args.store.now c.a_table.new.store c.in_err-table.field-0.0 c.from_residual.result c.in_err-table.ensures.refused refl (p.1 ∙ ap Err p.2)

pub entry_at-value-requires-clause-key : goal.entry_at-value-requires-clause-key
entry_at-value-requires-clause-key c = rw c.in_ok-table.ensures.same (c.second.ensures.of c.args.store.now c.requires)

pub returns-clause-answer : goal.returns-clause-answer
returns-clause-answer c =
    let value = rw (c.in_ok-table.ensures.same, c.second.ensures.value c.args.store.now.texts) at c.entry_at-value.ensures.value in
    rw (c.in_ok-values.ensures, c.in_ok-table.ensures.same)
    (found _ _ c.in_ok-table.table.at c.args.store.now.heap _ c.in_ok-table.ensures.found refl ∙ value)
