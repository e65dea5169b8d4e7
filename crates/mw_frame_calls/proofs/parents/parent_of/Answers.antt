use Rattle.std.proofs.Common.{◌≡◌, ◌∙◌, ◌+◌, ap, refl, subst, sym, Ok}
use Rattle.mw_frame_texts.specs.LuaHeapProc.{Proc}
use Rattle.mw_frame_texts.specs.LuaHeapValue.{Table, Nil}
use Rattle.mw_frame_texts.specs.LuaMeaningFrames.{args_charge, make_frame}
use Rattle.mw_frame_texts.specs.LuaMeaningFrameMethods as meaning
use Rattle.mw_frame_texts.specs.LuaMeaningFrameMethods.{Framed}
use Rattle.mw_frame_texts.specs.LuaStoreDeclaredValueValueTheVariants as own
use Rattle.mw_frame_texts.specs.MwFramesScenes.{made, parent_seen, NamesOf}
use Rattle.mw_frame_texts.specs.MwFramesDeclaredScenesParent.{Parent}
use Rattle.mw_frame_texts.specs.MwFramesDeclaredScenesParentTheVariants as kin
use Rattle.mw_frame_texts.proofs.MwFramesKept.{seen-length}
use Rattle.mw_frame_texts.proofs.MwFramesStayLaws.{scenes_later}
use Rattle.mw_frame_calls.specs.Seen.{scenes_seen}
use Rattle.mw_frame_calls.specs.Parts.{numbered}
use Rattle.mw_frame_calls.proofs.Found.{took_covers, for_nothing}
use Rattle.mw_frame_calls.proofs.Frames.{same_frame, parent_seen_made}
use Rattle.mw_frame_calls.proofs.Values.{one_given}
use Rattle.mw_frame_calls.proofs.parents.parent_of.Goals as goal

pub returns-in_ok-answer-in-Nobody-clause-answer : goal.returns-in_ok-answer-in-Nobody-clause-answer
returns-in_ok-answer-in-Nobody-clause-answer c = λ f at.
    let s = c.args.store.now in
    let frames = scenes_seen c.args.scenes.now in
    let own_frame = same_frame (made c.args.scenes.now) c.args.number f c.frame.result.now at c.frame.ensures in
    let parent : f.parent ≡ kin.Nobody = ap (λ g. g.parent) own_frame ∙ c.in-Nobody.is in
    let parent_is : Parent → Framed Proc = λ p. meaning.parent_of s.heap frames (numbered c.args.number f) (parent_seen p) in
    for_nothing (parent_is f.parent) s s frames c.args.left.now (Ok c.in_ok-answer-in-Nobody.answer)
    (one_given 0 (parent_is f.parent) s.heap frames frames s c.in_ok-answer-in-Nobody.answer own.Nil Nil (ap parent_is parent) c.in_ok-answer-in-Nobody.ensures refl refl refl)

pub returns-in_ok-answer-in-Unmade-clause-answer : goal.returns-in_ok-answer-in-Unmade-clause-answer
returns-in_ok-answer-in-Unmade-clause-answer c = λ f at.
    let s = c.args.store.now in
    let h = s.heap in
    let fs = made c.args.scenes.now in
    let frames = scenes_seen c.args.scenes.now in
    let scene = c.in-Unmade.scene in
    let cost = 16 + args_charge scene.args in
    let table = c.in_ok-table-in-Unmade.table in
    let own_frame = same_frame fs c.args.number f c.frame.result.now at c.frame.ensures in
    let parent : f.parent ≡ kin.Unmade scene = ap (λ g. g.parent) own_frame ∙ c.in-Unmade.is in
    let is = c.in_ok-table-in-Unmade.ensures.made in
    let heap = is.2 ∙ ap (λ n. make_frame scene n h) (c.count.ensures.count ∙ sym (seen-length fs)) in
    let now = parent_seen_made h fs (made c.adopt.new.self) c.args.number f scene table (c.in_ok-adopt-in-Unmade.ensures.ok f scene at parent) is.1 in
    let parent_is : Parent → Framed Proc = λ p. meaning.parent_of h frames (numbered c.args.number f) (parent_seen p) in
    took_covers cost (parent_is f.parent) c.args.left.now c.make_paid.new.left c.make_paid.new.store (scenes_seen c.adopt.new.self) _ is.0
    (one_given cost (parent_is f.parent) _ _ (scenes_seen c.adopt.new.self) c.make_paid.new.store c.in_ok-answer-in-Unmade.answer (own.Table table) _ (ap parent_is parent) c.in_ok-answer-in-Unmade.ensures (ap Table is.1) heap now)

pub returns-in_ok-answer-in-Unmade-clause-scenes : goal.returns-in_ok-answer-in-Unmade-clause-scenes
returns-in_ok-answer-in-Unmade-clause-scenes c =
    let t = c.make_paid.new.store in
    let stay = scenes_later c.args.store.now t c.args.scenes.now c.make_paid.ensures.later c.requires.scenes in
    record {
      frames = c.adopt.ensures.of t stay.frames c.in_ok-table-in-Unmade.ensures.made.3;
      names = subst (NamesOf t) (sym c.adopt.ensures.names) stay.names;
    }
