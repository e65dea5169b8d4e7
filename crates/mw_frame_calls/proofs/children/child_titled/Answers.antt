use Rattle.std.proofs.Common.{◌∙◌, ap, subst, sym}
use Rattle.std.specs.Option.{option_map}
use Rattle.mw_frame_texts.specs.LuaMeaningFrameMethods.{child_title}
use Rattle.mw_frame_texts.specs.LuaBasicArguments.{text_bytes}
use Rattle.mw_frame_texts.specs.MwFramesScenes.{made}
use Rattle.mw_frame_calls.specs.Seen.{scenes_seen, Paid}
use Rattle.mw_frame_calls.proofs.Found.{titled, quoted}
use Rattle.mw_frame_calls.proofs.Frames.{same_frame}
use Rattle.mw_frame_calls.proofs.children.child_titled.Goals as goal

pub child_read-requires-clause-table : goal.child_read-requires-clause-table
child_read-requires-clause-table c = rw (rw c.in-Found.is at c.in_ok-title.ensures.same) c.requires.table

pub child_read-requires-clause-scenes : goal.child_read-requires-clause-scenes
child_read-requires-clause-scenes c = rw (rw c.in-Found.is at c.in_ok-title.ensures.same) c.requires.scenes

pub returns-in-Found-clause-answer : goal.returns-in-Found-clause-answer
returns-in-Found-clause-answer c = λ f at.
    let s = c.args.store.now in
    let frames = scenes_seen c.args.scenes.now in
    let own = same_frame (made c.args.scenes.now) c.args.number c.frame.result.now f c.frame.ensures at in
    let read = sym (ap (λ g. child_title (option_map text_bytes c.args.text.now) g.scene.title) own) ∙ rw c.in-Found.is at c.in_ok-title.ensures.read in
    let is = titled (child_title (option_map text_bytes c.args.text.now) f.scene.title) c.in-Found.title s.heap frames _ read in
    let answer = rw (rw c.in-Found.is at c.in_ok-title.ensures.same) at (c.child_read.ensures.answer f at) in
    subst (λ q. Paid q s frames c.args.left.now c.child_read.new.store (scenes_seen c.child_read.new.scenes) c.child_read.new.left c.child_read.result) (sym is) answer

pub returns-in-Quotes-clause-answer : goal.returns-in-Quotes-clause-answer
returns-in-Quotes-clause-answer c = λ f at.
    let own = same_frame (made c.args.scenes.now) c.args.number c.frame.result.now f c.frame.ensures at in
    let read = sym (ap (λ g. child_title (option_map text_bytes c.args.text.now) g.scene.title) own) ∙ rw c.in-Quotes.is at c.in_ok-title.ensures.read in
    quoted (child_title (option_map text_bytes c.args.text.now) f.scene.title) c.args.store.now c.a_child_title.new.store (scenes_seen c.args.scenes.now) c.args.left.now _ c.in-Quotes.message read c.in_ok-title.ensures.heap
