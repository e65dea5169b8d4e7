use Rattle.std.proofs.Common.{◌∙◌, ◌+◌, ap, refl, sym, arith, length, Err}
use Rattle.std.proofs.lemmas.Result.{err_from_is_err_and}
use Rattle.mw_frame_texts.specs.LuaHeapValue.{Table}
use Rattle.mw_frame_texts.specs.LuaMeaningFrames.{args_charge, make_frame}
use Rattle.mw_frame_texts.specs.LuaStoreDeclaredValueValueTheVariants as own
use Rattle.mw_frame_texts.specs.MwFramesReading.{args_seen}
use Rattle.mw_frame_texts.specs.MwFramesScenes.{made}
use Rattle.mw_frame_texts.proofs.MwFramesKept.{seen-length}
use Rattle.mw_frame_texts.proofs.MwFramesSums.{took_then, unpaid_then}
use Rattle.mw_frame_calls.specs.Seen.{scenes_seen}
use Rattle.mw_frame_calls.specs.Parts.{child_scene}
use Rattle.mw_frame_calls.proofs.Found.{took_covers, lacked}
use Rattle.mw_frame_calls.proofs.Frames.{child_seen}
use Rattle.mw_frame_calls.proofs.Values.{one_given}
use Rattle.mw_frame_calls.proofs.children.make_child.Goals as goal

pub returns-in_err-pay-clause-answer : goal.returns-in_err-pay-clause-answer
returns-in_err-pay-clause-answer c = λ f at.
    let p = err_from_is_err_and c.from_residual.result c.from_residual.ensures.1 in
    lacked 16 _ c.args.store.now (scenes_seen c.args.scenes.now) c.args.left.now c.pay.new.left c.in_err-pay.field-0.0 c.from_residual.result c.in_err-pay.ensures (omega arith) (p.1 ∙ ap Err p.2)

pub returns-in_err-pay_read-clause-answer : goal.returns-in_err-pay_read-clause-answer
returns-in_err-pay_read-clause-answer c = λ f at.
    let p = err_from_is_err_and c.from_residual-in_err-pay_read.result c.from_residual-in_err-pay_read.ensures.1 in
    let cost = args_charge (args_seen c.args.args.now) in
    lacked (16 + cost) _ c.args.store.now (scenes_seen c.args.scenes.now) c.args.left.now c.pay_read.new.left c.in_err-pay_read.field-0.0 c.from_residual-in_err-pay_read.result
    (unpaid_then 16 cost c.args.left.now c.pay.new.left c.pay_read.new.left c.in_err-pay_read.field-0.0 c.in_ok-pay.ensures c.in_err-pay_read.ensures) (omega arith) (p.1 ∙ ap Err p.2)

pub returns-clause-answer : goal.returns-clause-answer
returns-clause-answer c = λ f at.
    let frames = scenes_seen c.args.scenes.now in
    let h = c.args.store.now.heap in
    let fs = made c.args.scenes.now in
    let cost = args_charge (args_seen c.args.args.now) in
    let scene = child_scene f c.args.title (args_seen c.args.args.now) in
    let scene_is = c.in_ok-scene.ensures.scene f at in
    let table = c.in_ok-table.table in
    let heap = c.in_ok-table.ensures.heap ∙ ap (λ x. make_frame x (length fs) h) scene_is ∙ ap (λ n. make_frame scene n h) (sym (seen-length fs)) in
    let now = child_seen h fs (made c.add_frame.new.scenes) scene table c.args.number (rw scene_is at c.in_ok-table.ensures.added) c.in_ok-table.ensures.at in
    took_covers (16 + cost) _ c.args.left.now c.pay_read.new.left c.add_frame.new.store (scenes_seen c.add_frame.new.scenes) _
    (took_then 16 cost c.args.left.now c.pay.new.left c.pay_read.new.left c.in_ok-pay.ensures c.in_ok-pay_read.ensures)
    (one_given (16 + cost) _ _ _ (scenes_seen c.add_frame.new.scenes) c.add_frame.new.store c.in_ok-answer.answer (own.Table table) _ refl c.in_ok-answer.ensures (ap Table c.in_ok-table.ensures.at) heap now)
