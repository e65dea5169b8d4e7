use Rattle.std.proofs.Common.{◌∙◌, ◌+◌, ap, refl, arith, List, length, Err}
use Rattle.std.proofs.lemmas.Result.{err_from_is_err_and}
use Rattle.mw_frame.specs.WkBaseTitles.{title_text}
use Rattle.mw_frame_texts.specs.LuaMeaningFrames.{bytes_of}
use Rattle.mw_frame.specs.declared.scene.Arg.{Arg}
use Rattle.mw_frame.specs.declared.question.Ask.TheVariants.{Template}
use Rattle.mw_frame_texts.specs.LuaMeaningQuestions.{TemplateAsked}
use Rattle.mw_frame_texts.specs.LuaStoreSeen.{StoreView}
use Rattle.mw_frame_texts.specs.MwFramesReading.{args_seen}
use Rattle.mw_frame_texts.proofs.MwFramesSums.{took_then, unpaid_then}
use Rattle.mw_frame_calls.specs.Seen.{scenes_seen}
use Rattle.mw_frame_calls.proofs.Found.{took_covers, lacked}
use Rattle.mw_frame_calls.proofs.Values.{asked_given}
use Rattle.mw_frame_calls.proofs.asking.ask_template.Goals as goal

pub returns-in_err-pay-clause-answer : goal.returns-in_err-pay-clause-answer
returns-in_err-pay-clause-answer c =
    let p = err_from_is_err_and c.from_residual-in_err-pay.result c.from_residual-in_err-pay.ensures.1 in
    let size = ap length (c.as_slice.ensures ∙ c.in_ok-whole.ensures) in
    lacked _ _ c.args.store.now (scenes_seen c.args.scenes.now) c.args.left.now c.pay.new.left c.in_err-pay.field-0.0 c.from_residual-in_err-pay.result c.in_err-pay.ensures (omega (arith, size)) (p.1 ∙ ap Err p.2)

pub returns-in_err-pay_bytes-clause-answer : goal.returns-in_err-pay_bytes-clause-answer
returns-in_err-pay_bytes-clause-answer c =
    let p = err_from_is_err_and c.from_residual-in_err-pay_bytes.result c.from_residual-in_err-pay_bytes.ensures.1 in
    let title = rw (c.as_slice.ensures ∙ c.in_ok-whole.ensures) at c.in_ok-pay.ensures in
    let args = args_seen c.args.args.now in
    lacked _ _ c.args.store.now (scenes_seen c.args.scenes.now) c.args.left.now c.pay_bytes.new.left c.in_err-pay_bytes.field-0.0 c.from_residual-in_err-pay_bytes.result
    (unpaid_then (length (title_text c.args.title)) (bytes_of args) c.args.left.now c.pay.new.left c.pay_bytes.new.left c.in_err-pay_bytes.field-0.0 title c.in_err-pay_bytes.ensures) (omega arith) (p.1 ∙ ap Err p.2)

pub returns-clause-answer : goal.returns-clause-answer
returns-clause-answer c =
    let title = rw (c.as_slice.ensures ∙ c.in_ok-whole.ensures) at c.in_ok-pay.ensures in
    let args = args_seen c.args.args.now in
    let paid = took_then (length (title_text c.args.title)) (bytes_of args) c.args.left.now c.pay.new.left c.pay_bytes.new.left title c.in_ok-pay_bytes.ensures in
    let merge = λ (read : List Arg). Template c.args.scene.now c.args.title read in
    took_covers (length (title_text c.args.title) + bytes_of args) _ c.args.left.now c.pay_bytes.new.left c.text-2.new.self (scenes_seen c.args.scenes.now) _ paid
    (asked_given (length (title_text c.args.title) + bytes_of args) _ c.args.store.now.heap (scenes_seen c.args.scenes.now) c.text-2.new.self _ _ _ _ refl
    (ap (λ scene. Template scene c.args.title c.in_ok-merged.merged) c.in_ok-scene.ensures ∙ ap merge c.in_ok-merged.ensures.merged) (ap TemplateAsked c.in_ok-name.ensures.there) (ap (λ (x : StoreView). x.heap) c.in_ok-name.ensures.added))
