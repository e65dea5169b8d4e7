use Rattle.std.proofs.Common.{◌≡◌, ◌∙◌, ap, arith, refl, Err, length, w64}
use Rattle.std.proofs.lemmas.Result.{err_from_is_err_and}
use Rattle.std.proofs.lemmas.Int.{to_z-of_z}
use Rattle.mw_text.specs.MwUstringTexts.{points_of}
use Rattle.mw_frame_texts.proofs.Charged.{lacked}
use Rattle.mw_frame_texts.specs.LuaMeaningUstring.{point_values}
use Rattle.mw_ustrings.proofs.Costs.{values_cover}
use Rattle.mw_ustrings.proofs.parts.give_points.Goals as goal

pub returns-in_err-pay-clause-answer : goal.returns-in_err-pay-clause-answer
returns-in_err-pay-clause-answer c =
    let p = err_from_is_err_and c.from_residual.result c.from_residual.ensures.1 in
    let points = rw (to_z-of_z w64 c.args.from c.ranges.from, to_z-of_z w64 c.args.to c.ranges.to) at c.part-part.ensures.points in
    let count : c.count_points.result ≡ length (points_of c.args.s.now c.args.from c.args.to) = c.count_points.ensures ∙ ap length points in
    lacked c.count_points.result _ c.args.store.now c.args.left.now c.pay.new.left c.in_err-pay.field-0.0 c.from_residual.result c.in_err-pay.ensures (omega (arith, count)) (p.1 ∙ ap Err p.2)

pub returns-clause-answer : goal.returns-clause-answer
returns-clause-answer c =
    let points = rw (to_z-of_z w64 c.args.from c.ranges.from, to_z-of_z w64 c.args.to c.ranges.to) at c.part-part.ensures.points in
    let count : c.count_points.result ≡ length (points_of c.args.s.now c.args.from c.args.to) = c.count_points.ensures ∙ ap length points in
    let codes = rw (to_z-of_z w64 c.args.from c.ranges.from, to_z-of_z w64 c.args.to c.ranges.to) at c.in_ok-codes.ensures in
    let seen = c.in_ok-values.ensures.values c.args.store.now.texts ∙ ap point_values (c.as_slice.ensures ∙ codes) in
    values_cover _ c.args.store.now.heap c.args.store.now c.args.left.now c.pay.new.left _ c.in_ok-values.values (rw count at c.in_ok-pay.ensures) refl seen

pub returns-clause-of : goal.returns-clause-of
returns-clause-of c = c.in_ok-values.ensures.of c.args.store.now
