-- Frames by number, and the frames of a run with one more.
use Rattle.std.proofs.Common.{◌≡◌, ◌∙◌, ap, sym, ℕ, ◌+◌, List, [], ◌∷◌, ◌++◌, length, slice_get, slice_set, Some}
use Rattle.mw_frame.specs.declared.scene.Scene.{Scene}
use Rattle.mw_frame_texts.specs.LuaHeapProc.{Proc}
use Rattle.mw_frame_texts.specs.LuaHeapHeap.{Heap}
use Rattle.mw_frame_texts.specs.LuaHeapValue.{Table}
use Rattle.mw_frame_texts.specs.LuaMeaningActs.{Frame, Nobody, Made}
use Rattle.mw_frame_texts.specs.LuaMeaningFrames.{new_frame}
use Rattle.mw_frame_texts.specs.LuaStoreDeclaredIdsTableId.{TableId}
use Rattle.mw_frame_texts.specs.MwFramesDeclaredScenesParent.{Parent}
use Rattle.mw_frame_texts.specs.MwFramesDeclaredScenesParentTheVariants as kin
use Rattle.mw_frame_texts.specs.MwFramesDeclaredScenesSceneFrame.{SceneFrame}
use Rattle.mw_frame_texts.specs.MwFramesScenes.{parent_seen, frame_seen, frames_seen}
use Rattle.mw_frame_texts.proofs.MwFramesKept.{seen-length, seen-push, seen-set}

-- ONE MORE FRAME, as it is seen
one_more : (h : Heap Proc) (scene : Scene) (table : TableId) (parent : Parent) → table.at ≡ length h.tables + 2
    → frame_seen (record { scene = scene; table = table; parent = parent }) ≡ new_frame h scene (parent_seen parent)
one_more h scene table parent e = ap (λ n. let x : Frame = record { scene = scene; table = Table n; parent = parent_seen parent } in x) e

pub child_seen : (h : Heap Proc) (fs gs : List SceneFrame) (scene : Scene) (table : TableId) (number : ℕ) → gs ≡ fs ++ record { scene = scene; table = table; parent = kin.Made number } ∷ []
    → table.at ≡ length h.tables + 2 → frames_seen gs ≡ frames_seen fs ++ new_frame h scene (Made number) ∷ []
child_seen h fs gs scene table number e at =
    ap frames_seen e ∙ seen-push fs (record { scene = scene; table = table; parent = kin.Made number })
    ∙ ap (λ f. frames_seen fs ++ f ∷ []) (one_more h scene table (kin.Made number) at)

with_parent : (f : SceneFrame) (n m : ℕ) → n ≡ m → frame_seen (record f { parent = kin.Made n }) ≡ record (frame_seen f) { parent = Made m }
with_parent f n m e = ap (λ k. let x : Frame = record (frame_seen f) { parent = Made k } in x) e

pub parent_seen_made : (h : Heap Proc) (fs gs : List SceneFrame) (n : ℕ) (f : SceneFrame) (scene : Scene) (table : TableId)
    → gs ≡ slice_set fs n (record f { parent = kin.Made (length fs) }) ++ record { scene = scene; table = table; parent = kin.Nobody } ∷ [] → table.at ≡ length h.tables + 2
    → frames_seen gs ≡ slice_set (frames_seen fs) n (record (frame_seen f) { parent = Made (length (frames_seen fs)) }) ++ new_frame h scene Nobody ∷ []
parent_seen_made h fs gs n f scene table e at =
    let put : List SceneFrame = slice_set fs n (record f { parent = kin.Made (length fs) }) in
    ap frames_seen e ∙ seen-push put (record { scene = scene; table = table; parent = kin.Nobody })
    ∙ ap (λ xs. xs ++ frame_seen (record { scene = scene; table = table; parent = kin.Nobody }) ∷ []) (seen-set fs n (record f { parent = kin.Made (length fs) }))
    ∙ ap (λ x. slice_set (frames_seen fs) n x ++ frame_seen (record { scene = scene; table = table; parent = kin.Nobody }) ∷ []) (with_parent f (length fs) (length (frames_seen fs)) (sym (seen-length fs)))
    ∙ ap (λ x. slice_set (frames_seen fs) n (record (frame_seen f) { parent = Made (length (frames_seen fs)) }) ++ x ∷ []) (one_more h scene table kin.Nobody at)

-- a frame of a number is one
pub same_frame : (fs : List SceneFrame) (n : ℕ) (f g : SceneFrame) → slice_get fs n ≡ Some f → slice_get fs n ≡ Some g → f ≡ g
same_frame fs n f g e k = let x : Some f ≡ Some g = sym e ∙ k in cc
