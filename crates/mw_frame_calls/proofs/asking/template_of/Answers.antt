use Rattle.std.proofs.Common.{ap, subst, sym}
use Rattle.mw_frame_texts.specs.LuaMeaningArguments.{some_value}
use Rattle.mw_frame_texts.specs.LuaMeaningMessages.{bad_template_arguments}
use Rattle.mw_frame_texts.specs.LuaMeaningFrameMethods.{a_title_text}
use Rattle.mw_frame_texts.specs.LuaBasicArguments.{text_bytes}
use Rattle.mw_frame_texts.specs.LuaBasicSeen.{values_seen}
use Rattle.mw_frame_calls.specs.Seen.{scenes_seen, Paid}
use Rattle.mw_frame_calls.specs.Parts.{template_titled}
use Rattle.mw_frame_calls.proofs.Found.{raised}
use Rattle.mw_frame_calls.proofs.Asked.{no_request, no_title, no_entries, all_found}
use Rattle.mw_frame_calls.proofs.asking.template_of.Goals as goal

pub returns-in_default-clause-answer : goal.returns-in_default-clause-answer
returns-in_default-clause-answer c =
    let s = c.args.store.now in
    let frames = scenes_seen c.args.scenes.now in
    raised _ bad_template_arguments s c.refuse.new.store frames c.args.left.now c.refuse.result
    (no_request a_title_text s frames (values_seen s.texts c.args.given.now) (template_titled s.heap frames c.args.scene.now) bad_template_arguments c.in_default.ensures.found) c.refuse.ensures.raises

pub returns-in_default-2-clause-answer : goal.returns-in_default-2-clause-answer
returns-in_default-2-clause-answer c =
    let s = c.args.store.now in
    let frames = scenes_seen c.args.scenes.now in
    let text = ap (some_value bad_template_arguments) (sym (rw c.in_default-2.is at c.in_ok-text.ensures)) in
    raised _ bad_template_arguments s c.refuse-in_default-2.new.store frames c.args.left.now c.refuse-in_default-2.result
    (no_title a_title_text s frames (values_seen s.texts c.args.given.now) (template_titled s.heap frames c.args.scene.now) c.in-Some.request bad_template_arguments c.in-Some.ensures.found text) c.refuse-in_default-2.ensures.raises

pub returns-in_default-entries_table-clause-answer : goal.returns-in_default-entries_table-clause-answer
returns-in_default-entries_table-clause-answer c =
    let s = c.args.store.now in
    let frames = scenes_seen c.args.scenes.now in
    let text = ap (some_value bad_template_arguments) (sym (rw c.in-Some-2.is at c.in_ok-text.ensures)) in
    raised _ bad_template_arguments s c.refuse-in_default-entries_table.new.store frames c.args.left.now c.refuse-in_default-entries_table.result
    (no_entries a_title_text s frames (values_seen s.texts c.args.given.now) (template_titled s.heap frames c.args.scene.now) c.in-Some.request (text_bytes c.in-Some-2.text) bad_template_arguments c.in-Some.ensures.found text
    (c.in_default-entries_table.ensures.found s.texts s.heap)) c.refuse-in_default-entries_table.ensures.raises

pub returns-clause-answer : goal.returns-clause-answer
returns-clause-answer c =
    let s = c.args.store.now in
    let frames = scenes_seen c.args.scenes.now in
    let text = ap (some_value bad_template_arguments) (sym (rw c.in-Some-2.is at c.in_ok-text.ensures)) in
    let is = all_found a_title_text s frames (values_seen s.texts c.args.given.now) (template_titled s.heap frames c.args.scene.now) c.in-Some.request (text_bytes c.in-Some-2.text) _ c.in-Some.ensures.found text
    (c.in-Some-entries_table.ensures.found s.texts s.heap) in
    let answer = rw c.as_slice.ensures at c.template_titled.ensures.answer in
    subst (λ q. Paid q s frames c.args.left.now c.template_titled.new.store frames c.template_titled.new.left c.template_titled.result) (sym is) answer
