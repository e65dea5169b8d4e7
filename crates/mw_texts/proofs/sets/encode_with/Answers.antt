use Rattle.std.proofs.Common.{◌∙◌, ap, Err}
use Rattle.std.proofs.lemmas.Result.{err_from_is_err_and}
use Rattle.mw_ustrings.proofs.MwFrameTextsCharged.{charged, not_charged}
use Rattle.mw_texts.proofs.sets.encode_with.Goals as goal

pub returns-in_err-pay-clause-answer : goal.returns-in_err-pay-clause-answer
returns-in_err-pay-clause-answer c =
    let p = err_from_is_err_and c.from_residual.result c.from_residual.ensures.1 in
    not_charged _ _ c.args.store.now c.args.left.now c.pay.new.left c.in_err-pay.field-0.0 c.from_residual.result (rw (c.set_cost.ensures, c.set_bytes.ensures) at c.in_err-pay.ensures) (p.1 ∙ ap Err p.2)

pub returns-clause-answer : goal.returns-clause-answer
returns-clause-answer c =
    let answer = rw c.set_bytes-2.ensures at c.encode_by.ensures.answer in
    charged _ _ c.args.store.now c.args.left.now c.pay.new.left c.encode_by.new.left c.encode_by.new.store c.encode_by.result (rw (c.set_cost.ensures, c.set_bytes.ensures) at c.in_ok-pay.ensures) answer
