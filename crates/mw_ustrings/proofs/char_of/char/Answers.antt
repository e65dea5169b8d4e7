use Rattle.std.proofs.Common.{◌∙◌, ap, refl, Err}
use Rattle.std.proofs.lemmas.Result.{err_from_is_err_and}
use Rattle.mw_frame_texts.specs.LuaBasicSeen.{values_seen}
use Rattle.mw_ustrings.specs.CodePoints.{points_bytes}
use Rattle.mw_ustrings.proofs.ReadArguments.{handed_on, turned_down}
use Rattle.mw_frame_texts.specs.LuaMeaningUstring.{points_text}
use Rattle.mw_ustrings.proofs.char_of.char.Goals as goal

pub returns-in_err-check_points-clause-answer : goal.returns-in_err-check_points-clause-answer
returns-in_err-check_points-clause-answer c =
    let p = err_from_is_err_and c.from_residual.result c.from_residual.ensures.1 in
    let s = c.args.store.now in
    let vs = values_seen s.texts c.args.args.now in
    turned_down _ (points_text 1 vs) _ s s c.check_points.new.store c.args.left.now c.in_err-check_points.field-0.0 c.from_residual.result refl c.in_err-check_points.ensures.refused refl (p.1 ∙ ap Err p.2)

pub returns-clause-answer : goal.returns-clause-answer
returns-clause-answer c =
    let s = c.args.store.now in
    let vs = values_seen s.texts c.args.args.now in
    let answer = rw c.in_ok-check_points.ensures.same at c.give_chars.ensures.answer in
    handed_on _ (points_text 1 vs) (points_bytes vs) _ s c.args.left.now c.give_chars.new.left c.give_chars.new.store c.give_chars.result c.in_ok-check_points.ensures.found refl
    answer
