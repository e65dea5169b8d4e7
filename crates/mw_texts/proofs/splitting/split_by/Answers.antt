use Rattle.std.proofs.Common.{◌∙◌, ap, Err}
use Rattle.std.proofs.lemmas.Result.{err_from_is_err_and}
use Rattle.mw_ustrings.proofs.MwFrameTextsCharged.{charged, not_charged}
use Rattle.mw_texts.proofs.splitting.split_by.Goals as goal

pub returns-in_err-pay-clause-answer : goal.returns-in_err-pay-clause-answer
returns-in_err-pay-clause-answer c =
    let p = err_from_is_err_and c.from_residual.result c.from_residual.ensures.1 in
    not_charged _ _ c.args.store.now c.args.left.now c.pay.new.left c.in_err-pay.field-0.0 c.from_residual.result (rw c.pattern_cost.ensures at c.in_err-pay.ensures) (p.1 ∙ ap Err p.2)

pub returns-clause-answer : goal.returns-clause-answer
returns-clause-answer c =
    charged _ _ c.args.store.now c.args.left.now c.pay.new.left c.split_paid.new.left c.split_paid.new.store c.split_paid.result (rw c.pattern_cost.ensures at c.in_ok-pay.ensures) c.split_paid.ensures.answer
