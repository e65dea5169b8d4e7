use Rattle.std.proofs.Common.{◌∙◌, ap, refl, Err}
use Rattle.std.proofs.lemmas.Result.{err_from_is_err_and}
use Rattle.lua_basic.specs.Seen.{values_seen}
use Rattle.lua_strings.specs.Found.{codes_of}
use Rattle.lua_strings.proofs.Given.{past, ended}
use Rattle.lua_strings.proofs.making.char_of.Goals as goal

pub returns-in_err-check_codes-clause-answer : goal.returns-in_err-check_codes-clause-answer
returns-in_err-check_codes-clause-answer c =
    let p = err_from_is_err_and c.from_residual.result c.from_residual.ensures.1 in
    let s = c.args.store.now in
    ended _ _ _ s c.check_codes.new.store c.args.left.now c.in_err-check_codes.field-0.0 c.from_residual.result c.in_err-check_codes.ensures.refused refl (p.1 ∙ ap Err p.2)

pub returns-clause-answer : goal.returns-clause-answer
returns-clause-answer c =
    let s = c.args.store.now in
    let answer = rw c.in_ok-check_codes.ensures.same at c.give_bytes.ensures.answer in
    past _ _ (codes_of (values_seen s.texts c.args.args.now)) _ s _ _ _ _ c.in_ok-check_codes.ensures.found refl answer
