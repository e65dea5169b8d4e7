use Rattle.std.proofs.Common.{◌∙◌, ap, Err, w64}
use Rattle.std.proofs.lemmas.Result.{err_from_is_err_and}
use Rattle.std.proofs.lemmas.Int.{to_z-of_z}
use Rattle.mw_frame_texts.proofs.LuaStoreLater.{later-itself}
use Rattle.mw_frame_texts.proofs.Charged.{charged, not_charged}
use Rattle.mw_ustrings.proofs.finding.find_from.Goals as goal

pub returns-then-plain-clause-answer : goal.returns-then-plain-clause-answer
returns-then-plain-clause-answer c =
    let answer = rw (c.start.ensures.value, to_z-of_z w64 c.args.init c.ranges.init) at c.find_plain.ensures.answer in
    rw c.if-plain.true answer

pub returns-then-plain-clause-later : goal.returns-then-plain-clause-later
returns-then-plain-clause-later c = rw c.find_plain.ensures.same (later-itself c.args.store.now)

pub returns-in_err-pay-clause-answer : goal.returns-in_err-pay-clause-answer
returns-in_err-pay-clause-answer c =
    let p = err_from_is_err_and c.from_residual.result c.from_residual.ensures.1 in
    rw c.if-plain.false
    (not_charged _ _ c.args.store.now c.args.left.now c.pay.new.left c.in_err-pay.field-0.0 c.from_residual.result c.in_err-pay.ensures (p.1 ∙ ap Err p.2))

pub returns-clause-answer : goal.returns-clause-answer
returns-clause-answer c =
    let answer = rw (to_z-of_z w64 c.args.init c.ranges.init) at c.find_pattern.ensures.answer in
    rw c.if-plain.false
    (charged _ _ c.args.store.now c.args.left.now c.pay.new.left c.find_pattern.new.left c.find_pattern.new.store c.find_pattern.result c.in_ok-pay.ensures answer)
