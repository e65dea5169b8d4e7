use Rattle.std.proofs.Common.{◌≡◌, ◌∙◌, ap, arith, sym, refl, Err, length, drop, length-drop}
use Rattle.std.proofs.lemmas.Result.{err_from_is_err_and}
use Rattle.mw_frame_texts.proofs.MwFramesSums.{took_then}
use Rattle.mw_frame_texts.proofs.Charged.{lacked}
use Rattle.mw_ustrings.proofs.Costs.{values_cover, lacked_second}
use Rattle.mw_ustrings.proofs.Searches.{plain_found, plain_none, never_spent}
use Rattle.mw_ustrings.proofs.finding.find_plain.Goals as goal

pub returns-in_err-pay-clause-answer : goal.returns-in_err-pay-clause-answer
returns-in_err-pay-clause-answer c =
    let p = err_from_is_err_and c.from_residual.result c.from_residual.ensures.1 in
    let size : c.saturating_sub.result ≡ length (drop c.args.from c.args.s.now) = c.saturating_sub.ensures ∙ sym (length-drop c.args.from c.args.s.now) in
    lacked c.saturating_sub.result _ c.args.store.now c.args.left.now c.pay.new.left c.in_err-pay.field-0.0 c.from_residual.result c.in_err-pay.ensures (omega (arith, size)) (p.1 ∙ ap Err p.2)

pub returns-in_err-pay-2-clause-answer : goal.returns-in_err-pay-2-clause-answer
returns-in_err-pay-2-clause-answer c =
    let p = err_from_is_err_and c.from_residual-in_err-pay-2.result c.from_residual-in_err-pay-2.ensures.1 in
    let size : c.saturating_sub.result ≡ length (drop c.args.from c.args.s.now) = c.saturating_sub.ensures ∙ sym (length-drop c.args.from c.args.s.now) in
    lacked_second c.saturating_sub.result (length c.args.needle.now) _ c.args.store.now c.args.left.now c.pay.new.left c.pay-2.new.left c.in_err-pay-2.field-0.0 c.from_residual-in_err-pay-2.result c.in_ok-pay.ensures c.in_err-pay-2.ensures
    (omega (arith, size)) (p.1 ∙ ap Err p.2)

pub returns-in_ok-values-in-Found-clause-answer : goal.returns-in_ok-values-in-Found-clause-answer
returns-in_ok-values-in-Found-clause-answer c =
    let s = c.args.store.now in
    let size : c.saturating_sub.result ≡ length (drop c.args.from c.args.s.now) = c.saturating_sub.ensures ∙ sym (length-drop c.args.from c.args.s.now) in
    let took = took_then (length (drop c.args.from c.args.s.now)) (length c.args.needle.now) c.args.left.now c.pay.new.left c.pay-2.new.left (rw size at c.in_ok-pay.ensures) c.in_ok-pay-2.ensures in
    let found = rw c.in-Found.is at c.plain_find.ensures.found in
    values_cover _ s.heap s c.args.left.now c.pay-2.new.left _ c.in_ok-values-in-Found.values took refl
    (c.in_ok-values-in-Found.ensures.values s.texts ∙ sym (plain_found c.args.s.now c.args.from (length c.args.needle.now) _ c.in-Found.found _ found))

pub returns-in_ok-values-in-NotFound-clause-answer : goal.returns-in_ok-values-in-NotFound-clause-answer
returns-in_ok-values-in-NotFound-clause-answer c =
    let s = c.args.store.now in
    let size : c.saturating_sub.result ≡ length (drop c.args.from c.args.s.now) = c.saturating_sub.ensures ∙ sym (length-drop c.args.from c.args.s.now) in
    let took = took_then (length (drop c.args.from c.args.s.now)) (length c.args.needle.now) c.args.left.now c.pay.new.left c.pay-2.new.left (rw size at c.in_ok-pay.ensures) c.in_ok-pay-2.ensures in
    let found = rw c.in-NotFound.is at c.plain_find.ensures.found in
    values_cover _ s.heap s c.args.left.now c.pay-2.new.left _ c.in_ok-values-in-NotFound.values took refl
    (rw c.in_ok-values-in-NotFound.ensures (sym (plain_none c.args.s.now c.args.from (length c.args.needle.now) _ _ found)))

pub returns-in_ok-values-in-Found-clause-of : goal.returns-in_ok-values-in-Found-clause-of
returns-in_ok-values-in-Found-clause-of c = c.in_ok-values-in-Found.ensures.of c.args.store.now

pub returns-in-Spent-clause-answer : goal.returns-in-Spent-clause-answer
returns-in-Spent-clause-answer c = absurd (never_spent c.args.from (length c.args.needle.now) _ (rw c.in-Spent.is at c.plain_find.ensures.found))
