use Rattle.std.proofs.Common.{◌∙◌, ap, arith, Err, ◌∷◌, [], length}
use Rattle.std.proofs.lemmas.Result.{err_from_is_err_and}
use Rattle.mw_frame_texts.specs.LuaHeapValue.{Text}
use Rattle.mw_frame_texts.specs.LuaBasicSeen.{values_seen}
use Rattle.mw_frame_texts.proofs.Charged.{lacked}
use Rattle.mw_ustrings.specs.CodePoints.{points_bytes}
use Rattle.mw_ustrings.proofs.Costs.{values_cover}
use Rattle.mw_ustrings.proofs.char_of.give_chars.Goals as goal

pub returns-in_err-pay_points-clause-answer : goal.returns-in_err-pay_points-clause-answer
returns-in_err-pay_points-clause-answer c =
    let p = err_from_is_err_and c.from_residual.result c.from_residual.ensures.1 in
    let s = c.args.store.now in
    let bytes = points_bytes (values_seen s.texts c.args.args.now) in
    lacked (length bytes) _ s c.args.left.now c.pay_points.new.left c.in_err-pay_points.field-0.0 c.from_residual.result c.in_err-pay_points.ensures (omega arith) (p.1 ∙ ap Err p.2)

pub returns-clause-answer : goal.returns-clause-answer
returns-clause-answer c =
    let s = c.args.store.now in
    let bytes = points_bytes (values_seen s.texts c.args.args.now) in
    let made = c.as_slice.ensures.value ∙ c.in_ok-made.ensures in
    values_cover (length bytes) s.heap c.text_value.new.store c.args.left.now c.pay_points.new.left (Text bytes ∷ []) c.in_ok-values.values c.in_ok-pay_points.ensures c.in_ok-values.ensures.heap
    (c.in_ok-values.ensures.value ∙ ap (λ t. Text t ∷ []) made)
