use Rattle.std.proofs.Common.{◌≡◌, ◌∙◌, ap, refl, subst, sym, Ok, Err, codes}
use Rattle.std.proofs.lemmas.Result.{err_from_is_err_and}
use Rattle.mw_frame_texts.specs.LuaHeapValue.{Nil}
use Rattle.mw_frame_texts.specs.LuaMeaningArguments.{a_text}
use Rattle.mw_frame_texts.specs.LuaMeaningFrameMethods.{text_or_field, argument_table}
use Rattle.mw_frame_texts.specs.LuaBasicSeen.{values_seen}
use Rattle.mw_frame_texts.specs.LuaStoreSeen.{text_at}
use Rattle.mw_frame_texts.specs.LuaStoreDeclaredValueValueTheVariants as own
use Rattle.mw_frame_calls.specs.Seen.{scenes_seen, Paid}
use Rattle.mw_frame_calls.proofs.Found.{stopped, found, for_nothing}
use Rattle.mw_frame_calls.proofs.Values.{one_given}
use Rattle.mw_frame_calls.proofs.reading.argument_of.Goals as goal

pub a_text_or_field-requires-clause-name : goal.a_text_or_field-requires-clause-name
a_text_or_field-requires-clause-name c = rw c.names.ensures c.requires.scenes.names.name.0

pub returns-in_err-name-clause-answer : goal.returns-in_err-name-clause-answer
returns-in_err-name-clause-answer c =
    let p = err_from_is_err_and c.from_residual.result c.from_residual.ensures.1 in
    let s = c.args.store.now in
    let frames = scenes_seen c.args.scenes.now in
    let called : text_at s.texts c.names.result.name.at ≡ codes "name" = rw c.names.ensures c.requires.scenes.names.name.1 in
    for_nothing _ s c.a_text_or_field.new.store frames c.args.left.now c.from_residual.result
    (stopped _ _ _ s c.a_text_or_field.new.store frames c.in_err-name.field-0.0 c.from_residual.result (c.in_err-name.ensures.refused frames)
    (ap (λ n. a_text 2 (codes "getArgument") (text_or_field s.heap frames n (values_seen s.texts c.args.given.now))) called) (p.1 ∙ ap Err p.2))

pub returns-in-Some-clause-answer : goal.returns-in-Some-clause-answer
returns-in-Some-clause-answer c =
    let s = c.args.store.now in
    let frames = scenes_seen c.args.scenes.now in
    let called : text_at s.texts c.names.result.name.at ≡ codes "name" = rw c.names.ensures c.requires.scenes.names.name.1 in
    let asked = found _ _ _ s.heap frames _ (c.in_ok-name.ensures.found frames) (ap (λ n. a_text 2 (codes "getArgument") (text_or_field s.heap frames n (values_seen s.texts c.args.given.now))) called) in
    let value = rw (c.as_slice.ensures, c.as_slice-2.ensures) at c.in-Some.ensures in
    let answer = rw c.in_ok-name.ensures.same at c.give_argument.ensures.answer in
    subst (λ q. Paid q s frames c.args.left.now c.give_argument.new.store frames c.give_argument.new.left c.give_argument.result) (sym (asked ∙ ap (argument_table s.heap frames) value)) answer

pub returns-clause-answer : goal.returns-clause-answer
returns-clause-answer c =
    let s = c.args.store.now in
    let frames = scenes_seen c.args.scenes.now in
    let called : text_at s.texts c.names.result.name.at ≡ codes "name" = rw c.names.ensures c.requires.scenes.names.name.1 in
    let asked = found _ _ _ s.heap frames _ (c.in_ok-name.ensures.found frames) (ap (λ n. a_text 2 (codes "getArgument") (text_or_field s.heap frames n (values_seen s.texts c.args.given.now))) called) in
    let value = rw (c.as_slice.ensures, c.as_slice-2.ensures) at c.in-None.ensures in
    rw c.in_ok-name.ensures.same (for_nothing _ s s frames c.args.left.now (Ok c.in_ok-answer-in-None.answer)
    (one_given 0 _ s.heap frames frames s c.in_ok-answer-in-None.answer own.Nil Nil (asked ∙ ap (argument_table s.heap frames) value) c.in_ok-answer-in-None.ensures refl refl refl))
