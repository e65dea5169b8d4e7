use Rattle.std.proofs.Common.{◌∙◌, ap, arith, Err, ◌∷◌, [], length}
use Rattle.std.proofs.lemmas.Result.{err_from_is_err_and}
use Rattle.mw_frame_texts.specs.LuaHeapValue.{Text}
use Rattle.mw_frame_texts.proofs.Charged.{lacked}
use Rattle.mw_ustrings.proofs.Costs.{values_cover}
use Rattle.mw_ustrings.proofs.giving.give_text.Goals as goal

pub returns-in_err-pay-clause-answer : goal.returns-in_err-pay-clause-answer
returns-in_err-pay-clause-answer c =
    let p = err_from_is_err_and c.from_residual.result c.from_residual.ensures.1 in
    lacked (length c.args.text.now) _ c.args.store.now c.args.left.now c.pay.new.left c.in_err-pay.field-0.0 c.from_residual.result c.in_err-pay.ensures (omega arith) (p.1 ∙ ap Err p.2)

pub returns-clause-answer : goal.returns-clause-answer
returns-clause-answer c =
    values_cover (length c.args.text.now) c.args.store.now.heap c.text_value.new.store c.args.left.now c.pay.new.left (Text c.args.text.now ∷ []) c.in_ok-values.values c.in_ok-pay.ensures
    c.in_ok-values.ensures.heap c.in_ok-values.ensures.value
