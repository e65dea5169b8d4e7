use Rattle.std.proofs.Common.{◌∙◌, ap, arith, Err, ◌+◌}
use Rattle.std.proofs.lemmas.Result.{err_from_is_err_and}
use Rattle.mw_ustrings.proofs.MwFramesSums.{took_then}
use Rattle.mw_ustrings.proofs.MwFrameTextsCharged.{lacked}
use Rattle.mw_ustrings.proofs.Costs.{lacked_second}
use Rattle.mw_ustrings.specs.LuaMeaningTexts.{parts_charge}
use Rattle.mw_texts.proofs.NewTables.{table_covers}
use Rattle.mw_texts.proofs.splitting.give_parts.Goals as goal

pub returns-in_err-pay-clause-answer : goal.returns-in_err-pay-clause-answer
returns-in_err-pay-clause-answer c =
    let p = err_from_is_err_and c.from_residual.result c.from_residual.ensures.1 in
    lacked c.args.tries _ c.args.store.now c.args.left.now c.pay.new.left c.in_err-pay.field-0.0 c.from_residual.result c.in_err-pay.ensures (omega arith) (p.1 ∙ ap Err p.2)

pub returns-in_err-pay-2-clause-answer : goal.returns-in_err-pay-2-clause-answer
returns-in_err-pay-2-clause-answer c =
    let p = err_from_is_err_and c.from_residual-in_err-pay-2.result c.from_residual-in_err-pay-2.ensures.1 in
    lacked_second c.args.tries 8 _ c.args.store.now c.args.left.now c.pay.new.left c.pay-2.new.left c.in_err-pay-2.field-0.0 c.from_residual-in_err-pay-2.result c.in_ok-pay.ensures c.in_err-pay-2.ensures (omega arith) (p.1 ∙ ap Err p.2)

pub returns-in_err-pay_parts-clause-answer : goal.returns-in_err-pay_parts-clause-answer
returns-in_err-pay_parts-clause-answer c =
    let p = err_from_is_err_and c.from_residual-in_err-pay_parts.result c.from_residual-in_err-pay_parts.ensures.1 in
    let took = took_then c.args.tries 8 c.args.left.now c.pay.new.left c.pay-2.new.left c.in_ok-pay.ensures c.in_ok-pay-2.ensures in
    lacked_second (c.args.tries + 8) (parts_charge c.args.parts.now) _ c.args.store.now c.args.left.now c.pay-2.new.left c.pay_parts.new.left c.in_err-pay_parts.field-0.0 c.from_residual-in_err-pay_parts.result took c.in_err-pay_parts.ensures
    (omega arith) (p.1 ∙ ap Err p.2)

pub returns-clause-answer : goal.returns-clause-answer
returns-clause-answer c =
    let one = took_then c.args.tries 8 c.args.left.now c.pay.new.left c.pay-2.new.left c.in_ok-pay.ensures c.in_ok-pay-2.ensures in
    let two = took_then (c.args.tries + 8) (parts_charge c.args.parts.now) c.args.left.now c.pay-2.new.left c.pay_parts.new.left one c.in_ok-pay_parts.ensures in
    table_covers c.args.store.now.heap c.text_table.new.store c.args.left.now c.pay_parts.new.left c.args.tries c.args.parts.now c.in_ok-values.values c.in_ok-table.table two c.in_ok-values.ensures c.in_ok-table.ensures.id c.in_ok-table.ensures.made
