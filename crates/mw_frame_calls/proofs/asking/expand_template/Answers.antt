use Rattle.std.proofs.Common.{◌∙◌, ap, refl, subst, sym, Err}
use Rattle.std.proofs.lemmas.Result.{err_from_is_err_and}
use Rattle.mw_frame_texts.specs.MwFramesScenes.{made}
use Rattle.mw_frame_texts.proofs.MwFramesKept.{frame-there}
use Rattle.mw_frame_calls.specs.Seen.{scenes_seen, Paid}
use Rattle.mw_frame_calls.specs.Parts.{numbered}
use Rattle.mw_frame_calls.proofs.Found.{stopped, found, for_nothing}
use Rattle.mw_frame_calls.proofs.asking.expand_template.Goals as goal

pub returns-in_err-number-clause-answer : goal.returns-in_err-number-clause-answer
returns-in_err-number-clause-answer c =
    let p = err_from_is_err_and c.from_residual.result c.from_residual.ensures.1 in
    let s = c.args.store.now in
    let frames = scenes_seen c.args.scenes.now in
    for_nothing _ s c.a_frame.new.store frames c.args.left.now c.from_residual.result
    (stopped _ _ _ s c.a_frame.new.store frames c.in_err-number.field-0.0 c.from_residual.result c.in_err-number.ensures.refused refl (p.1 ∙ ap Err p.2))

pub template_of-requires-clause-given : goal.template_of-requires-clause-given
template_of-requires-clause-given c = rw c.in_ok-number.ensures.same (c.rest.ensures.of c.args.store.now c.requires.args)

pub template_of-requires-clause-scenes : goal.template_of-requires-clause-scenes
template_of-requires-clause-scenes c = rw c.in_ok-number.ensures.same c.requires.scenes

pub returns-clause-answer : goal.returns-clause-answer
returns-clause-answer c =
    let s = c.args.store.now in
    let frames = scenes_seen c.args.scenes.now in
    let f = c.frame.result.now in
    let self = found _ _ (numbered c.in_ok-number.number f) s.heap frames _ (c.in_ok-number.ensures.found f c.frame.ensures) refl in
    let answer = rw (c.in_ok-number.ensures.same, c.rest.ensures.values s.texts) at c.template_of.ensures.answer in
    subst (λ q. Paid q s frames c.args.left.now c.template_of.new.store frames c.template_of.new.left c.template_of.result) (sym self) answer

pub template_of-requires-clause-names : goal.template_of-requires-clause-names
template_of-requires-clause-names c = (frame-there c.args.store.now (made c.args.scenes.now) c.in_ok-number.number c.frame.result.now c.requires.scenes.frames c.frame.ensures).names
