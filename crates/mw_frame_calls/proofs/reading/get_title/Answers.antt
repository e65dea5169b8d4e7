use Rattle.std.proofs.Common.{◌∙◌, ap, refl, Err}
use Rattle.std.proofs.lemmas.Result.{err_from_is_err_and}
use Rattle.mw_frame_texts.specs.LuaHeapValue.{Text}
use Rattle.mw_frame_texts.specs.LuaStoreSeen.{StoreView}
use Rattle.mw_frame_texts.specs.LuaStoreDeclaredValueValueTheVariants as own
use Rattle.mw_frame.specs.WkBaseTitles.{title_text}
use Rattle.mw_frame_calls.specs.Seen.{scenes_seen}
use Rattle.mw_frame_calls.specs.Parts.{numbered}
use Rattle.mw_frame_calls.proofs.Found.{stopped, found}
use Rattle.mw_frame_calls.proofs.Values.{one_given}
use Rattle.mw_frame_calls.proofs.reading.get_title.Goals as goal

pub returns-in_err-number-clause-answer : goal.returns-in_err-number-clause-answer
returns-in_err-number-clause-answer c =
    let p = err_from_is_err_and c.from_residual.result c.from_residual.ensures.1 in
    stopped _ _ _ c.args.store.now c.a_frame.new.store (scenes_seen c.args.scenes.now) c.in_err-number.field-0.0 c.from_residual.result c.in_err-number.ensures.refused refl (p.1 ∙ ap Err p.2)

pub returns-clause-answer : goal.returns-clause-answer
returns-clause-answer c =
    let heap = λ (s : StoreView). s.heap in
    let h = c.args.store.now.heap in
    let frames = scenes_seen c.args.scenes.now in
    let f = c.frame.result.now in
    let self = found _ _ (numbered c.in_ok-number.number f) h frames _ (c.in_ok-number.ensures.found f c.frame.ensures) refl in
    one_given 0 _ h frames frames c.text-2.new.self c.in_ok-answer.answer (own.Text c.in_ok-text.text) (Text (title_text f.scene.title)) self c.in_ok-answer.ensures
    (ap Text (c.in_ok-text.ensures.there ∙ c.as_slice.ensures ∙ c.in_ok-title.ensures)) (ap heap (c.in_ok-text.ensures.added) ∙ ap heap c.in_ok-number.ensures.same) refl
