use Rattle.std.proofs.Common.{◌∙◌, ap, arith, refl, Err, ◌∷◌, []}
use Rattle.std.proofs.lemmas.Result.{err_from_is_err_and}
use Rattle.mw_frame_texts.specs.LuaHeapValue.{Nil}
use Rattle.mw_frame_texts.proofs.Charged.{lacked}
use Rattle.mw_ustrings.proofs.Costs.{values_cover}
use Rattle.mw_ustrings.proofs.giving.give_nothing.Goals as goal

pub returns-in_err-pay-clause-answer : goal.returns-in_err-pay-clause-answer
returns-in_err-pay-clause-answer c =
    let p = err_from_is_err_and c.from_residual.result c.from_residual.ensures.1 in
    lacked c.args.steps _ c.args.store.now c.args.left.now c.pay.new.left c.in_err-pay.field-0.0 c.from_residual.result c.in_err-pay.ensures (omega arith) (p.1 ∙ ap Err p.2)

pub returns-clause-answer : goal.returns-clause-answer
returns-clause-answer c =
    values_cover c.args.steps c.args.store.now.heap c.args.store.now c.args.left.now c.pay.new.left (Nil ∷ []) c.in_ok-values.values c.in_ok-pay.ensures refl (rw c.in_ok-values.ensures refl)
