use Rattle.std.proofs.Common.{◌∙◌, ap, refl, sym, subst, Err}
use Rattle.std.proofs.lemmas.Result.{err_from_is_err_and}
use Rattle.mw_frames.specs.LuaMeaningTag.{passed_in}
use Rattle.mw_frames.specs.LuaBasicArguments.{text_bytes}
use Rattle.mw_frames.specs.LuaBasicSeen.{Paid}
use Rattle.mw_frames.proofs.LuaBasicFound.{stopped, found, for_nothing}
use Rattle.mw_frames.specs.LuaStoreSeen.{StoreView, seen}
use Rattle.mw_frames.specs.Costs.{MayPay}
use Rattle.mw_frame_texts.proofs.Charged.{charged, not_charged_or}
use Rattle.mw_frame_texts.proofs.tagging.tag_of.Goals as goal

pub returns-in_err-name-clause-answer : goal.returns-in_err-name-clause-answer
returns-in_err-name-clause-answer c =
    let p = err_from_is_err_and c.from_residual.result c.from_residual.ensures.1 in
    let s = c.args.store.now in
    for_nothing _ s c.a_text.new.store c.args.left.now c.from_residual.result
    (stopped _ _ _ s c.a_text.new.store c.in_err-name.field-0.0 c.from_residual.result c.in_err-name.ensures.refused refl (p.1 ∙ ap Err p.2))

pub pay_attributes-requires : goal.pay_attributes-requires
pay_attributes-requires c = rw c.in_ok-name.ensures.same c.requires.attrs

pub returns-in_err-pay_attributes-clause-answer : goal.returns-in_err-pay_attributes-clause-answer
returns-in_err-pay_attributes-clause-answer c =
    let p = err_from_is_err_and c.from_residual-in_err-pay_attributes.result c.from_residual-in_err-pay_attributes.ensures.1 in
    let s = c.args.store.now in
    let is = found _ _ (text_bytes c.in_ok-name.name) s.heap _ c.in_ok-name.ensures.found refl in
    let lacks = subst (λ (x : StoreView). MayPay {A = Unit {0}} (passed_in x.heap (seen x.texts c.args.attrs)) c.args.left.now c.pay_attributes.new.left (Err c.in_err-pay_attributes.field-0.0)) c.in_ok-name.ensures.same c.in_err-pay_attributes.ensures in
    rw c.in_ok-name.ensures.same
    (subst (λ q. Paid q s c.args.left.now s c.pay_attributes.new.left c.from_residual-in_err-pay_attributes.result) (sym is)
    (not_charged_or (passed_in s.heap (seen s.texts c.args.attrs)) _ s c.args.left.now c.pay_attributes.new.left c.in_err-pay_attributes.field-0.0 c.from_residual-in_err-pay_attributes.result lacks (p.1 ∙ ap Err p.2)))

pub tag_named-requires-clause-attrs : goal.tag_named-requires-clause-attrs
tag_named-requires-clause-attrs c = rw c.in_ok-name.ensures.same c.requires.attrs

pub tag_named-requires-clause-content : goal.tag_named-requires-clause-content
tag_named-requires-clause-content c = rw c.in_ok-name.ensures.same c.requires.content

pub returns-clause-answer : goal.returns-clause-answer
returns-clause-answer c =
    let s = c.args.store.now in
    let is = found _ _ (text_bytes c.in_ok-name.name) s.heap _ c.in_ok-name.ensures.found refl in
    let took = rw c.in_ok-name.ensures.same at c.in_ok-pay_attributes.ensures in
    let answer = rw (c.in_ok-name.ensures.same, c.as_slice.ensures) at c.tag_named.ensures.answer in
    subst (λ q. Paid q s c.args.left.now c.tag_named.new.store c.tag_named.new.left c.tag_named.result) (sym is)
    (charged (passed_in s.heap (seen s.texts c.args.attrs)) _ s c.args.left.now c.pay_attributes.new.left c.tag_named.new.left c.tag_named.new.store c.tag_named.result took answer)
