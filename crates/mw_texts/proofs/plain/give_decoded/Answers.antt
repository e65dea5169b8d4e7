use Rattle.std.proofs.Common.{◌∙◌, ap, arith, length, [], ◌∷◌, Err}
use Rattle.std.proofs.lemmas.Result.{err_from_is_err_and}
use Rattle.mw_text.specs.Decode.{decoded}
use Rattle.mw_ustrings.specs.LuaHeapValue as kind
use Rattle.mw_ustrings.proofs.MwFrameTextsCharged.{lacked}
use Rattle.mw_ustrings.proofs.Costs.{values_cover}
use Rattle.mw_texts.proofs.plain.give_decoded.Goals as goal

pub returns-in_err-pay_decoded-clause-answer : goal.returns-in_err-pay_decoded-clause-answer
returns-in_err-pay_decoded-clause-answer c =
    let p = err_from_is_err_and c.from_residual.result c.from_residual.ensures.1 in
    lacked (length (decoded c.args.s.now)) _ c.args.store.now c.args.left.now c.pay_decoded.new.left c.in_err-pay_decoded.field-0.0 c.from_residual.result c.in_err-pay_decoded.ensures (omega arith) (p.1 ∙ ap Err p.2)

pub returns-clause-answer : goal.returns-clause-answer
returns-clause-answer c =
    let made = decoded c.args.s.now in
    values_cover (length made) c.args.store.now.heap c.text_value.new.store c.args.left.now c.pay_decoded.new.left (kind.Text made ∷ []) c.in_ok-values.values c.in_ok-pay_decoded.ensures c.in_ok-values.ensures.heap
    (c.in_ok-values.ensures.value ∙ ap (λ text. kind.Text text ∷ []) (c.as_slice.ensures.value ∙ c.in_ok-made.ensures))
