use Rattle.std.proofs.Common.{◌∙◌, ap, refl, Err}
use Rattle.std.proofs.lemmas.Result.{err_from_is_err_and}
use Rattle.mw_frame_texts.specs.LuaBasicArguments.{text_bytes}
use Rattle.mw_frame_texts.specs.LuaBasicSeen.{values_seen}
use Rattle.mw_frame_texts.specs.LuaMeaningArguments.{a_text}
use Rattle.mw_ustrings.proofs.ReadArguments.{handed_on, turned_down}
use Rattle.mw_ustrings.proofs.forms.to_form.Goals as goal

pub returns-in_err-text-clause-answer : goal.returns-in_err-text-clause-answer
returns-in_err-text-clause-answer c =
    let p = err_from_is_err_and c.from_residual.result c.from_residual.ensures.1 in
    let s = c.args.store.now in
    let vs = values_seen s.texts c.args.args.now in
    turned_down _ (a_text 1 c.args.function.now vs) _ s s c.a_text.new.store c.args.left.now c.in_err-text.field-0.0 c.from_residual.result refl c.in_err-text.ensures.refused refl (p.1 ∙ ap Err p.2)

pub returns-clause-answer : goal.returns-clause-answer
returns-clause-answer c =
    let s = c.args.store.now in
    let vs = values_seen s.texts c.args.args.now in
    let answer = rw (c.in_ok-text.ensures.same, c.as_slice.ensures) at c.give_form.ensures.answer in
    handed_on _ (a_text 1 c.args.function.now vs) (text_bytes c.in_ok-text.text) _ s c.args.left.now c.give_form.new.left c.give_form.new.store c.give_form.result c.in_ok-text.ensures.found refl
    answer
