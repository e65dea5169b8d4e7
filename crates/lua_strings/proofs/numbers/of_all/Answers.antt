use Rattle.std.proofs.Common.{◌∙◌, ap, Err, refl}
use Rattle.std.proofs.lemmas.Result.{err_from_is_err_and}
use Rattle.lua_basic.proofs.Found.{stopped}
use Rattle.lua_strings.proofs.numbers.of_all.Goals as goal

pub returns-in_err-numbers-clause-answer : goal.returns-in_err-numbers-clause-answer
returns-in_err-numbers-clause-answer c =
    let p = err_from_is_err_and c.from_residual.result c.from_residual.ensures.1 in
    stopped _ _ _ c.args.store.now c.all_numbers.new.store c.in_err-numbers.field-0.0 c.from_residual.result c.in_err-numbers.ensures.refused refl (p.1 ∙ ap Err p.2)
