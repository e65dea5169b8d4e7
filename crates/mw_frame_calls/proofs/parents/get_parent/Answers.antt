use Rattle.std.proofs.Common.{◌∙◌, ap, refl, subst, sym, Err}
use Rattle.std.proofs.lemmas.Result.{err_from_is_err_and}
use Rattle.mw_frame_texts.specs.MwFramesScenes.{made}
use Rattle.mw_frame_texts.proofs.MwFramesKept.{there-is}
use Rattle.mw_frame_texts.proofs.MwFramesStayLaws.{scenes_later}
use Rattle.mw_frame_calls.specs.Seen.{scenes_seen, Paid}
use Rattle.mw_frame_calls.specs.Parts.{numbered}
use Rattle.mw_frame_calls.proofs.Found.{stopped, found, for_nothing}
use Rattle.mw_frame_calls.proofs.parents.get_parent.Goals as goal

pub returns-in_err-number-clause-answer : goal.returns-in_err-number-clause-answer
returns-in_err-number-clause-answer c =
    let p = err_from_is_err_and c.from_residual.result c.from_residual.ensures.1 in
    let s = c.args.store.now in
    let frames = scenes_seen c.args.scenes.now in
    for_nothing _ s c.a_frame.new.store frames c.args.left.now c.from_residual.result
    (stopped _ _ _ s c.a_frame.new.store frames c.in_err-number.field-0.0 c.from_residual.result c.in_err-number.ensures.refused refl (p.1 ∙ ap Err p.2))

pub returns-in_err-number-clause-scenes : goal.returns-in_err-number-clause-scenes
returns-in_err-number-clause-scenes c = scenes_later _ _ c.args.scenes.now c.a_frame.ensures.later c.requires.scenes

pub parent_of-requires-clause-scenes : goal.parent_of-requires-clause-scenes
parent_of-requires-clause-scenes c = rw c.in_ok-number.ensures.same c.requires.scenes

pub returns-clause-answer : goal.returns-clause-answer
returns-clause-answer c =
    let s = c.args.store.now in
    let frames = scenes_seen c.args.scenes.now in
    let it = there-is (made c.args.scenes.now) c.in_ok-number.number c.in_ok-number.ensures.within in
    let self = found _ _ (numbered c.in_ok-number.number it.0) s.heap frames _ (c.in_ok-number.ensures.found it.0 it.1) refl in
    let answer = rw c.in_ok-number.ensures.same at (c.parent_of.ensures.answer it.0 it.1) in
    subst (λ q. Paid q s frames c.args.left.now c.parent_of.new.store (scenes_seen c.parent_of.new.scenes) c.parent_of.new.left c.parent_of.result) (sym self) answer
