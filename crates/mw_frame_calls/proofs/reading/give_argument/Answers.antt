use Rattle.std.proofs.Common.{◌∙◌, ap, refl, arith, Err, length}
use Rattle.std.proofs.lemmas.Result.{err_from_is_err_and}
use Rattle.mw_frame_texts.specs.LuaHeapValue.{Table}
use Rattle.mw_frame_texts.specs.LuaStoreDeclaredValueValueTheVariants as own
use Rattle.mw_frame_calls.specs.Seen.{scenes_seen}
use Rattle.mw_frame_calls.proofs.Found.{took_covers, lacked}
use Rattle.mw_frame_calls.proofs.Values.{one_given}
use Rattle.mw_frame_calls.proofs.reading.give_argument.Goals as goal

pub returns-in_err-pay-clause-answer : goal.returns-in_err-pay-clause-answer
returns-in_err-pay-clause-answer c =
    let p = err_from_is_err_and c.from_residual.result c.from_residual.ensures.1 in
    lacked 16 _ c.args.store.now (scenes_seen c.args.scenes.now) c.args.left.now c.pay.new.left c.in_err-pay.field-0.0 c.from_residual.result c.in_err-pay.ensures (omega arith) (p.1 ∙ ap Err p.2)

pub returns-clause-answer : goal.returns-clause-answer
returns-clause-answer c =
    let frames = scenes_seen c.args.scenes.now in
    took_covers 16 _ c.args.left.now c.pay.new.left c.argument_table.new.store frames _ c.in_ok-pay.ensures
    (one_given 16 _ _ frames frames c.argument_table.new.store c.in_ok-answer.answer (own.Table c.in_ok-table.table) (Table (length c.args.store.now.heap.tables)) refl c.in_ok-answer.ensures (ap Table c.in_ok-table.ensures.id) c.in_ok-table.ensures.made refl)
