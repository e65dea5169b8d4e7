use Rattle.std.proofs.Common.{◌∙◌, ap, arith, sym, [], ◌∷◌, Err, length, map}
use Rattle.std.proofs.lemmas.Result.{err_from_is_err_and}
use Rattle.mw_text.specs.Answers.{total}
use Rattle.mw_text.specs.Joined.{joined}
use Rattle.mw_ustrings.specs.LuaBasicArguments.{text_bytes}
use Rattle.mw_ustrings.specs.LuaHeapValue as kind
use Rattle.mw_ustrings.proofs.MwFramesSums.{took_then}
use Rattle.mw_ustrings.proofs.MwFrameTextsCharged.{lacked}
use Rattle.mw_ustrings.proofs.Costs.{values_cover, lacked_second}
use Rattle.mw_texts.specs.Costs.{glue_charge}
use Rattle.mw_texts.proofs.ItemLists.{joined_size}
use Rattle.mw_texts.proofs.listing.give_joined.Goals as goal

pub returns-in_err-pay_items-clause-answer : goal.returns-in_err-pay_items-clause-answer
returns-in_err-pay_items-clause-answer c =
    let p = err_from_is_err_and c.from_residual.result c.from_residual.ensures.1 in
    let all = joined_size c.args.separator.now c.args.conjunction.now c.args.items.now in
    lacked (total (map text_bytes c.args.items.now)) _ c.args.store.now c.args.left.now c.pay_items.new.left c.in_err-pay_items.field-0.0 c.from_residual.result c.in_err-pay_items.ensures (omega (arith, all)) (p.1 ∙ ap Err p.2)

pub returns-in_err-pay_glue-clause-answer : goal.returns-in_err-pay_glue-clause-answer
returns-in_err-pay_glue-clause-answer c =
    let p = err_from_is_err_and c.from_residual-in_err-pay_glue.result c.from_residual-in_err-pay_glue.ensures.1 in
    let all = joined_size c.args.separator.now c.args.conjunction.now c.args.items.now in
    lacked_second (total (map text_bytes c.args.items.now)) (glue_charge (length c.args.separator.now) (length c.args.conjunction.now) (length c.args.items.now)) _ c.args.store.now c.args.left.now c.pay_items.new.left
    c.pay_glue.new.left c.in_err-pay_glue.field-0.0 c.from_residual-in_err-pay_glue.result c.in_ok-pay_items.ensures c.in_err-pay_glue.ensures (omega (arith, all)) (p.1 ∙ ap Err p.2)

pub returns-clause-answer : goal.returns-clause-answer
returns-clause-answer c =
    let all = joined_size c.args.separator.now c.args.conjunction.now c.args.items.now in
    let took = took_then (total (map text_bytes c.args.items.now)) (glue_charge (length c.args.separator.now) (length c.args.conjunction.now) (length c.args.items.now)) c.args.left.now c.pay_items.new.left c.pay_glue.new.left
    c.in_ok-pay_items.ensures c.in_ok-pay_glue.ensures in
    let made = joined c.args.separator.now c.args.conjunction.now (map text_bytes c.args.items.now) in
    values_cover (length made) c.args.store.now.heap c.text_value.new.store c.args.left.now c.pay_glue.new.left (kind.Text made ∷ []) c.in_ok-values.values (rw (sym all) at took) c.in_ok-values.ensures.heap
    (c.in_ok-values.ensures.value ∙ ap (λ text. kind.Text text ∷ []) (c.as_slice.ensures.value ∙ c.in_ok-made.ensures))
