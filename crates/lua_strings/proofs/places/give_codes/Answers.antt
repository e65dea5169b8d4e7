use Rattle.std.proofs.Common.{◌∙◌, ap, arith, length, Err, refl}
use Rattle.std.proofs.lemmas.Result.{err_from_is_err_and}
use Rattle.lua_strings.proofs.Taken.{values_paid, not_paid}
use Rattle.lua_strings.proofs.places.give_codes.Goals as goal

pub returns-in_err-take-clause-answer : goal.returns-in_err-take-clause-answer
returns-in_err-take-clause-answer c =
    let p = err_from_is_err_and c.from_residual.result c.from_residual.ensures.1 in
    not_paid (length c.args.bytes.now) _ c.args.store.now c.args.left.now c.take.new.left c.in_err-take.field-0.0 c.from_residual.result c.in_err-take.ensures (omega arith) (p.1 ∙ ap Err p.2)

pub returns-clause-answer : goal.returns-clause-answer
returns-clause-answer c =
    let s = c.args.store.now in
    values_paid (length c.args.bytes.now) s s c.args.left.now c.take.new.left c.in_ok-values.values _ c.in_ok-take.ensures refl (c.in_ok-values.ensures.values s.texts)

pub returns-clause-of : goal.returns-clause-of
returns-clause-of c = c.in_ok-values.ensures.of c.args.store.now
