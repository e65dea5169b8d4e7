use Rattle.std.proofs.Common.{◌∙◌, ap, Err, refl}
use Rattle.std.proofs.lemmas.Result.{err_from_is_err_and}
use Rattle.lua_basic.specs.Arguments.{text_bytes}
use Rattle.lua_basic.proofs.Found.{stopped, found}
use Rattle.lua_strings.proofs.making.len.Goals as goal

pub returns-in_err-text-clause-answer : goal.returns-in_err-text-clause-answer
returns-in_err-text-clause-answer c =
    let p = err_from_is_err_and c.from_residual.result c.from_residual.ensures.1 in
    stopped _ _ _ c.args.store.now c.a_text.new.store c.in_err-text.field-0.0 c.from_residual.result c.in_err-text.ensures.refused refl (p.1 ∙ ap Err p.2)

pub returns-clause-answer : goal.returns-clause-answer
returns-clause-answer c =
    rw (c.in_ok-values.ensures, c.in_ok-length.ensures, c.as_slice.ensures, c.in_ok-text.ensures.same)
    (found _ _ (text_bytes c.in_ok-text.text) c.args.store.now.heap _ c.in_ok-text.ensures.found refl)

pub returns-clause-of : goal.returns-clause-of
returns-clause-of c = rw (c.in_ok-values.ensures, c.in_ok-length.ensures) (tt, tt)
