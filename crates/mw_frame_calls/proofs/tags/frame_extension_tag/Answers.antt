use Rattle.std.proofs.Common.{◌∙◌, ap, refl, subst, sym, Ok, Err}
use Rattle.std.proofs.lemmas.Result.{err_from_is_err_and}
use Rattle.mw_frame_texts.specs.LuaMeaningTag.{extension_tag}
use Rattle.mw_frame_texts.specs.LuaMeaningValues.{rest}
use Rattle.mw_frame_texts.specs.LuaBasicSeen as plain
use Rattle.mw_frame_texts.specs.LuaBasicSeen.{values_seen}
use Rattle.mw_frame_texts.specs.LuaStoreSeen.{StoreView}
use Rattle.mw_frame_texts.specs.MwFramesScenes.{made}
use Rattle.mw_frame_texts.proofs.MwFramesKept.{there-is}
use Rattle.mw_frame_calls.specs.declared.answer.FrameAnswer.TheVariants as answer
use Rattle.mw_frame_calls.specs.Seen.{scenes_seen, Paid}
use Rattle.mw_frame_calls.specs.Parts.{numbered}
use Rattle.mw_frame_calls.proofs.Found.{stopped, found, for_nothing, gives_values, gives_none}
use Rattle.mw_frame_calls.proofs.tags.frame_extension_tag.Goals as goal

pub returns-in_err-_number-clause-answer : goal.returns-in_err-_number-clause-answer
returns-in_err-_number-clause-answer c =
    let p = err_from_is_err_and c.from_residual.result c.from_residual.ensures.1 in
    let s = c.args.store.now in
    let frames = scenes_seen c.args.scenes.now in
    for_nothing _ s c.a_frame.new.store frames c.args.left.now c.from_residual.result
    (stopped _ _ _ s c.a_frame.new.store frames c.in_err-_number.field-0.0 c.from_residual.result c.in_err-_number.ensures.refused refl (p.1 ∙ ap Err p.2))

pub returns-in_err-values-clause-answer : goal.returns-in_err-values-clause-answer
returns-in_err-values-clause-answer c =
    let p = err_from_is_err_and c.from_residual-in_err-values.result c.from_residual-in_err-values.ensures.1 in
    let s = c.args.store.now in
    let frames = scenes_seen c.args.scenes.now in
    let it = there-is (made c.args.scenes.now) c.in_ok-_number._number c.in_ok-_number.ensures.within in
    let self = found _ _ (numbered c.in_ok-_number._number it.0) s.heap frames _ (c.in_ok-_number.ensures.found it.0 it.1) refl in
    let t = c.extension_tag.new.store in
    let l = c.args.left.now in
    let m = c.extension_tag.new.left in
    let e = c.in_err-values.field-0.0 in
    let answer = subst (λ vs. plain.Paid (extension_tag vs s.heap) s l t m (Err e)) (c.rest.ensures.values s.texts)
    (subst (λ (x : StoreView). plain.Paid (extension_tag (values_seen x.texts c.rest.result.now) x.heap) x l t m (Err e)) c.in_ok-_number.ensures.same c.in_err-values.ensures.answer) in
    subst (λ q. Paid q s frames c.args.left.now c.extension_tag.new.store frames c.extension_tag.new.left c.from_residual-in_err-values.result) (sym self)
    (gives_none _ s.heap s c.extension_tag.new.store frames c.args.left.now c.extension_tag.new.left c.in_err-values.field-0.0 c.from_residual-in_err-values.result answer (p.1 ∙ ap Err p.2))

pub returns-clause-answer : goal.returns-clause-answer
returns-clause-answer c =
    let s = c.args.store.now in
    let frames = scenes_seen c.args.scenes.now in
    let it = there-is (made c.args.scenes.now) c.in_ok-_number._number c.in_ok-_number.ensures.within in
    let self = found _ _ (numbered c.in_ok-_number._number it.0) s.heap frames _ (c.in_ok-_number.ensures.found it.0 it.1) refl in
    let paid = rw (c.in_ok-_number.ensures.same, c.rest.ensures.values s.texts) at c.in_ok-values.ensures.answer in
    subst (λ q. Paid q s frames c.args.left.now c.extension_tag.new.store frames c.extension_tag.new.left (Ok (answer.Gives c.in_ok-values.values))) (sym self)
    (gives_values (extension_tag (rest (values_seen s.texts c.args.args.now)) s.heap) s.heap s c.extension_tag.new.store frames c.args.left.now c.extension_tag.new.left c.in_ok-values.values paid)

pub extension_tag-requires-clause-given : goal.extension_tag-requires-clause-given
extension_tag-requires-clause-given c = rw c.in_ok-_number.ensures.same (c.rest.ensures.of c.args.store.now c.requires.args)

pub extension_tag-requires-clause-names : goal.extension_tag-requires-clause-names
extension_tag-requires-clause-names c = rw (c.in_ok-_number.ensures.same, c.names.ensures) c.requires.scenes.names
