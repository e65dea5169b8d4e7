use Rattle.std.proofs.Common.{◌∙◌, ap, refl, Err}
use Rattle.std.proofs.lemmas.Result.{err_from_is_err_and}
use Rattle.mw_frame_texts.specs.LuaBasicSeen.{values_seen}
use Rattle.mw_frame_texts.specs.MwFramesScenes.{made}
use Rattle.mw_frame_texts.proofs.MwFramesKept.{there-is}
use Rattle.mw_frame_calls.specs.Seen.{scenes_seen}
use Rattle.mw_frame_calls.specs.Parts.{numbered}
use Rattle.mw_frame_calls.proofs.Found.{stopped, found}
use Rattle.mw_frame_calls.proofs.Values.{walked}
use Rattle.mw_frame_calls.proofs.reading.argument_pairs.Goals as goal

pub returns-in_err-_number-clause-answer : goal.returns-in_err-_number-clause-answer
returns-in_err-_number-clause-answer c =
    let p = err_from_is_err_and c.from_residual.result c.from_residual.ensures.1 in
    stopped _ _ _ c.args.store.now c.a_frame.new.store (scenes_seen c.args.scenes.now) c.in_err-_number.field-0.0 c.from_residual.result c.in_err-_number.ensures.refused refl (p.1 ∙ ap Err p.2)

pub field_at-table-requires-clause-of : goal.field_at-table-requires-clause-of
field_at-table-requires-clause-of c = rw c.in_ok-_number.ensures.same (c.first.ensures.of c.args.store.now c.requires.args)

pub field_at-table-requires-clause-name : goal.field_at-table-requires-clause-name
field_at-table-requires-clause-name c = rw (c.in_ok-_number.ensures.same, c.names.ensures) c.requires.scenes.names.args.0

pub returns-clause-answer : goal.returns-clause-answer
returns-clause-answer c =
    let s = c.args.store.now in
    let frames = scenes_seen c.args.scenes.now in
    let it = there-is (made c.args.scenes.now) c.in_ok-_number._number c.in_ok-_number.ensures.within in
    let value = rw (c.in_ok-_number.ensures.same, c.names.ensures) at c.field_at-table.ensures.value in
    let self = found _ _ (numbered c.in_ok-_number._number it.0) s.heap frames _ (c.in_ok-_number.ensures.found it.0 it.1) refl in
    rw c.in_ok-_number.ensures.same
    (walked _ s.heap frames (values_seen s.texts c.args.args.now) s c.field_at-table.result _ _ self value (c.first.ensures.value s.texts) c.requires.scenes.names.args.1 refl)
