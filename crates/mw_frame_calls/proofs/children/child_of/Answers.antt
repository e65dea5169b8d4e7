use Rattle.std.proofs.Common.{subst, sym}
use Rattle.std.specs.Option.{option_map}
use Rattle.mw_frame_texts.specs.LuaMeaningMessages.{bad_template_arguments}
use Rattle.mw_frame_texts.specs.LuaMeaningFrameMethods.{an_optional_text}
use Rattle.mw_frame_texts.specs.LuaBasicArguments.{text_bytes}
use Rattle.mw_frame_texts.specs.LuaBasicSeen.{values_seen}
use Rattle.mw_frame_calls.specs.Seen.{scenes_seen, Paid}
use Rattle.mw_frame_calls.specs.Parts.{numbered, child_titled}
use Rattle.mw_frame_calls.proofs.Found.{raised}
use Rattle.mw_frame_calls.proofs.Asked.{no_request, no_title, no_entries, all_found}
use Rattle.mw_frame_calls.proofs.children.child_of.Goals as goal

pub returns-in_default-clause-answer : goal.returns-in_default-clause-answer
returns-in_default-clause-answer c = λ f at.
    let s = c.args.store.now in
    let frames = scenes_seen c.args.scenes.now in
    raised _ bad_template_arguments s c.refuse.new.store frames c.args.left.now c.refuse.result
    (no_request an_optional_text s frames (values_seen s.texts c.args.given.now) (child_titled s.heap frames (numbered c.args.number f)) bad_template_arguments c.in_default.ensures.found) c.refuse.ensures.raises

pub returns-in_default-2-clause-answer : goal.returns-in_default-2-clause-answer
returns-in_default-2-clause-answer c = λ f at.
    let s = c.args.store.now in
    let frames = scenes_seen c.args.scenes.now in
    let text = rw c.in_default-2.is at c.in_ok-text.ensures in
    raised _ bad_template_arguments s c.refuse-in_default-2.new.store frames c.args.left.now c.refuse-in_default-2.result
    (no_title an_optional_text s frames (values_seen s.texts c.args.given.now) (child_titled s.heap frames (numbered c.args.number f)) c.in-Some.request bad_template_arguments c.in-Some.ensures.found text) c.refuse-in_default-2.ensures.raises

pub returns-in_default-entries_table-clause-answer : goal.returns-in_default-entries_table-clause-answer
returns-in_default-entries_table-clause-answer c = λ f at.
    let s = c.args.store.now in
    let frames = scenes_seen c.args.scenes.now in
    let text = rw c.in-Some-2.is at c.in_ok-text.ensures in
    raised _ bad_template_arguments s c.refuse-in_default-entries_table.new.store frames c.args.left.now c.refuse-in_default-entries_table.result
    (no_entries an_optional_text s frames (values_seen s.texts c.args.given.now) (child_titled s.heap frames (numbered c.args.number f)) c.in-Some.request (option_map text_bytes c.in-Some-2.text) bad_template_arguments
    c.in-Some.ensures.found text (c.in_default-entries_table.ensures.found s.texts s.heap)) c.refuse-in_default-entries_table.ensures.raises

pub returns-clause-answer : goal.returns-clause-answer
returns-clause-answer c = λ f at.
    let s = c.args.store.now in
    let frames = scenes_seen c.args.scenes.now in
    let text = rw c.in-Some-2.is at c.in_ok-text.ensures in
    let is = all_found an_optional_text s frames (values_seen s.texts c.args.given.now) (child_titled s.heap frames (numbered c.args.number f)) c.in-Some.request (option_map text_bytes c.in-Some-2.text) _
    c.in-Some.ensures.found text (c.in-Some-entries_table.ensures.found s.texts s.heap) in
    subst (λ q. Paid q s frames c.args.left.now c.child_titled.new.store (scenes_seen c.child_titled.new.scenes) c.child_titled.new.left c.child_titled.result) (sym is) (c.child_titled.ensures.answer f at)
