use Rattle.std.proofs.Common.{◌∙◌, ap, arith, Err}
use Rattle.std.proofs.lemmas.Result.{err_from_is_err_and}
use Rattle.std.proofs.lemmas.List.Elements.{recursion_from_All}
use Rattle.lua_pattern.specs.Sizes.{find_bytes}
use Rattle.mw_frame_texts.proofs.MwFramesSums.{took_then}
use Rattle.mw_frame_texts.proofs.Charged.{lacked}
use Rattle.mw_ustrings.proofs.Costs.{values_cover, lacked_second}
use Rattle.mw_ustrings.proofs.finding.give_found.Goals as goal

pub find_values-requires-clause-captures : goal.find_values-requires-clause-captures
find_values-requires-clause-captures c = recursion_from_All _ _ c.requires.captures

pub returns-in_err-pay-clause-answer : goal.returns-in_err-pay-clause-answer
returns-in_err-pay-clause-answer c =
    let p = err_from_is_err_and c.from_residual.result c.from_residual.ensures.1 in
    lacked c.args.tries _ c.args.store.now c.args.left.now c.pay.new.left c.in_err-pay.field-0.0 c.from_residual.result c.in_err-pay.ensures (omega arith) (p.1 ∙ ap Err p.2)

pub returns-in_err-pay_captures-clause-answer : goal.returns-in_err-pay_captures-clause-answer
returns-in_err-pay_captures-clause-answer c =
    let p = err_from_is_err_and c.from_residual-in_err-pay_captures.result c.from_residual-in_err-pay_captures.ensures.1 in
    lacked_second c.args.tries (find_bytes c.args.found.now) _ c.args.store.now c.args.left.now c.pay.new.left c.pay_captures.new.left c.in_err-pay_captures.field-0.0 c.from_residual-in_err-pay_captures.result c.in_ok-pay.ensures
    (rw c.as_slice.ensures at c.in_err-pay_captures.ensures) (omega arith) (p.1 ∙ ap Err p.2)

pub returns-clause-answer : goal.returns-clause-answer
returns-clause-answer c =
    let took = took_then c.args.tries (find_bytes c.args.found.now) c.args.left.now c.pay.new.left c.pay_captures.new.left c.in_ok-pay.ensures (rw c.as_slice.ensures at c.in_ok-pay_captures.ensures) in
    values_cover _ c.args.store.now.heap c.find_values.new.store c.args.left.now c.pay_captures.new.left _ c.in_ok-values.values took c.find_values.ensures.heap c.in_ok-values.ensures.values
