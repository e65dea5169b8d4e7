use Rattle.std.proofs.Common.{◌≡◌, ◌∙◌, ap, arith, length, Err, codes}
use Rattle.std.proofs.lemmas.Result.{err_from_is_err_and}
use Rattle.mw_frame_texts.specs.LuaMeaningArguments.{a_text}
use Rattle.mw_frame_texts.specs.LuaHeapProc.{Proc}
use Rattle.mw_frame_texts.specs.LuaMeaningFrameMethods.{Framed, asks, text_or_field}
use Rattle.mw_frame_texts.specs.LuaMeaningQuestions.{TextAsked}
use Rattle.mw_frame_texts.specs.LuaBasicArguments.{text_bytes}
use Rattle.mw_frame_texts.specs.LuaBasicSeen.{values_seen}
use Rattle.mw_frame.specs.declared.question.Ask.TheVariants.{Preprocess}
use Rattle.mw_frame_calls.specs.Parts.{preprocess_in}
use Rattle.mw_frame_texts.specs.LuaStoreSeen.{text_at}
use Rattle.mw_frame_calls.specs.Seen.{scenes_seen}
use Rattle.mw_frame_calls.proofs.Found.{stopped, found, for_nothing, took_covers, lacked}
use Rattle.mw_frame_calls.proofs.asking.preprocess_of.Goals as goal

pub a_text_or_field-requires-clause-name : goal.a_text_or_field-requires-clause-name
a_text_or_field-requires-clause-name c = rw c.names.ensures c.requires.scenes.names.text.0

pub returns-in_err-text-clause-answer : goal.returns-in_err-text-clause-answer
returns-in_err-text-clause-answer c =
    let p = err_from_is_err_and c.from_residual.result c.from_residual.ensures.1 in
    let s = c.args.store.now in
    let frames = scenes_seen c.args.scenes.now in
    let called : text_at s.texts c.names.result.text.at ≡ codes "text" = rw c.names.ensures c.requires.scenes.names.text.1 in
    for_nothing _ s c.a_text_or_field.new.store frames c.args.left.now c.from_residual.result
    (stopped _ _ _ s c.a_text_or_field.new.store frames c.in_err-text.field-0.0 c.from_residual.result (c.in_err-text.ensures.refused frames)
    (ap (λ n. a_text 2 (codes "preprocess") (text_or_field s.heap frames n (values_seen s.texts c.args.given.now))) called) (p.1 ∙ ap Err p.2))

pub returns-in_err-pay-clause-answer : goal.returns-in_err-pay-clause-answer
returns-in_err-pay-clause-answer c =
    let p = err_from_is_err_and c.from_residual-in_err-pay.result c.from_residual-in_err-pay.ensures.1 in
    let s = c.args.store.now in
    let frames = scenes_seen c.args.scenes.now in
    let given = values_seen s.texts c.args.given.now in
    let text = text_bytes c.in_ok-text.text in
    let called : text_at s.texts c.names.result.text.at ≡ codes "text" = rw c.names.ensures c.requires.scenes.names.text.1 in
    let asked : preprocess_in s.heap frames c.args.scene.now given ≡ asks s.heap frames (length text) (Preprocess c.args.scene.now text) TextAsked =
    found _ _ _ s.heap frames _ (c.in_ok-text.ensures.found frames) (ap (λ n. a_text 2 (codes "preprocess") (text_or_field s.heap frames n given)) called) in
    let charge : (preprocess_in s.heap frames c.args.scene.now given).charge ≡ length text = ap (λ (q : Framed Proc). q.charge) asked in
    let size : length c.as_slice.result.now ≡ length text = ap length c.as_slice.ensures in
    rw c.in_ok-text.ensures.same
    (lacked (length c.as_slice.result.now) (preprocess_in s.heap frames c.args.scene.now given) s frames c.args.left.now c.pay.new.left c.in_err-pay.field-0.0 c.from_residual-in_err-pay.result c.in_err-pay.ensures
    (omega (arith, charge, size)) (p.1 ∙ ap Err p.2))

pub returns-clause-answer : goal.returns-clause-answer
returns-clause-answer c =
    let s = c.args.store.now in
    let frames = scenes_seen c.args.scenes.now in
    let called : text_at s.texts c.names.result.text.at ≡ codes "text" = rw c.names.ensures c.requires.scenes.names.text.1 in
    let asked = found _ _ _ s.heap frames _ (c.in_ok-text.ensures.found frames) (ap (λ n. a_text 2 (codes "preprocess") (text_or_field s.heap frames n (values_seen s.texts c.args.given.now))) called) in
    let paid = rw c.as_slice.ensures at c.in_ok-pay.ensures in
    rw (c.in_ok-text.ensures.same, c.in_ok-scene.ensures, c.in_ok-bytes.ensures, c.as_slice-2.ensures) (took_covers _ _ c.args.left.now c.pay.new.left s frames _ paid asked)
