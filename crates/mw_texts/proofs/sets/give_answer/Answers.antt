use Rattle.std.proofs.Common.{◌∙◌, ap, arith, subst, Err}
use Rattle.std.proofs.lemmas.Result.{err_from_is_err_and}
use Rattle.mw_ustrings.specs.LuaMeaningArguments.{gives_text}
use Rattle.mw_ustrings.specs.LuaBasicSeen.{Paid}
use Rattle.mw_ustrings.proofs.MwFrameTextsCharged.{charged, lacked}
use Rattle.mw_ustrings.proofs.Costs.{exceeded}
use Rattle.mw_ustrings.specs.LuaMeaningTexts.{gives_tried}
use Rattle.mw_texts.proofs.sets.give_answer.Goals as goal

pub returns-in-Spent-clause-answer : goal.returns-in-Spent-clause-answer
returns-in-Spent-clause-answer c = λ tries text h. exceeded _ c.args.store.now c.args.left.now c.spend.new.left c.spend.result (rw c.in-Spent.is at h) c.spend.ensures.stop_ c.spend.ensures.rest

pub returns-in_err-pay-in-Text-clause-answer : goal.returns-in_err-pay-in-Text-clause-answer
returns-in_err-pay-in-Text-clause-answer c = λ tries text h.
    let p = err_from_is_err_and c.from_residual.result c.from_residual.ensures.1 in
    let is = rw c.in-Text.is at h in
    lacked c.in-Text.tries _ c.args.store.now c.args.left.now c.pay.new.left c.in_err-pay-in-Text.field-0.0 c.from_residual.result c.in_err-pay-in-Text.ensures (omega (arith, is.2)) (p.1 ∙ ap Err p.2)

pub returns-in_ok-pay-in-Text-clause-answer : goal.returns-in_ok-pay-in-Text-clause-answer
returns-in_ok-pay-in-Text-clause-answer c = λ tries text h.
    let s = c.args.store.now in
    let is = rw c.in-Text.is at h in
    let answer = subst (λ x. Paid (gives_text s.heap x) s c.pay.new.left c.give_text.new.store c.give_text.new.left c.give_text.result) (c.as_slice.ensures.value ∙ is.1) c.give_text.ensures.answer in
    let all = charged c.in-Text.tries (gives_text s.heap text) s c.args.left.now c.pay.new.left c.give_text.new.left c.give_text.new.store c.give_text.result c.in_ok-pay-in-Text.ensures answer in
    subst (λ n. Paid (gives_tried s.heap n text) s c.args.left.now c.give_text.new.store c.give_text.new.left c.give_text.result) is.2 all
