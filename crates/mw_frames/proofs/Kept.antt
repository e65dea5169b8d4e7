-- Frames of a store, with one more, and with another one in a place.
use Rattle.std.proofs.Common.{◌≡◌, ◌∙◌, ap, sym, refl, subst, arith, ℕ, zero, suc, ◌<◌, List, [], ◌∷◌, ◌++◌, length, slice_get, slice_set, Some}
use Rattle.std.specs.Option.{option_map}
use Rattle.lua_basic.specs.LuaStoreDeclaredIdsTableId.{TableId}
use Rattle.lua_basic.specs.LuaStoreSeen.{StoreView}
use Rattle.mw_frames.specs.declared.scenes.SceneFrame.{SceneFrame}
use Rattle.mw_frame.specs.declared.scene.Scene.{Scene}
use Rattle.mw_frame.specs.Scenes.{NamesDiffer}
use Rattle.mw_frames.specs.declared.scenes.Parent.{Parent}
use Rattle.mw_frames.specs.declared.scenes.Parent.TheVariants as kin
use Rattle.mw_frames.specs.Scenes.{frame_seen, frames_seen, HasNames, FrameOf, FramesOf}

pub frames-push : (s : StoreView) (fs : List SceneFrame) (f : SceneFrame) → FramesOf s fs → FrameOf s f → FramesOf s (fs ++ f ∷ [])
frames-push s [] f h k = (k, tt)
frames-push s (g ∷ fs) f h k = (h.0, frames-push s fs f h.1 k)

pub frame-there : (s : StoreView) (fs : List SceneFrame) (n : ℕ) (f : SceneFrame) → FramesOf s fs → slice_get fs n ≡ Some f → FrameOf s f
frame-there s [] n f h e = absurd cc
frame-there s (g ∷ fs) zero f h e = let same : g ≡ f = cc in subst (FrameOf s) same h.0
frame-there s (g ∷ fs) (suc n) f h e = frame-there s fs n f h.1 e

pub frames-set : (s : StoreView) (fs : List SceneFrame) (n : ℕ) (f : SceneFrame) → FramesOf s fs → FrameOf s f → FramesOf s (slice_set fs n f)
frames-set s [] n f h k = tt
frames-set s (g ∷ fs) zero f h k = (k, h.1)
frames-set s (g ∷ fs) (suc n) f h k = (h.0, frames-set s fs n f h.1 k)

-- as they are seen
pub seen-push : (fs : List SceneFrame) (f : SceneFrame) → frames_seen (fs ++ f ∷ []) ≡ frames_seen fs ++ frame_seen f ∷ []
seen-push [] f = refl
seen-push (g ∷ fs) f = ap (λ l. frame_seen g ∷ l) (seen-push fs f)

pub seen-set : (fs : List SceneFrame) (n : ℕ) (f : SceneFrame) → frames_seen (slice_set fs n f) ≡ slice_set (frames_seen fs) n (frame_seen f)
seen-set [] n f = refl
seen-set (g ∷ fs) zero f = refl
seen-set (g ∷ fs) (suc n) f = ap (λ l. frame_seen g ∷ l) (seen-set fs n f)

pub seen-length : (fs : List SceneFrame) → length (frames_seen fs) ≡ length fs
seen-length [] = refl
seen-length (f ∷ fs) = let e = seen-length fs in omega (arith, e)

pub seen-get : (fs : List SceneFrame) (n : ℕ) → slice_get (frames_seen fs) n ≡ option_map frame_seen (slice_get fs n)
seen-get [] n = refl
seen-get (f ∷ fs) zero = refl
seen-get (f ∷ fs) (suc n) = seen-get fs n

pub there-is : (fs : List SceneFrame) (n : ℕ) → n < length fs → (f : SceneFrame) × (slice_get fs n ≡ Some f)
there-is [] n h = absurd (omega (arith, h))
there-is (f ∷ fs) zero h = (f, refl)
there-is (f ∷ fs) (suc n) h = there-is fs n (omega (arith, h))

-- A PARENT is put in the place of another one
pub parent-put : (s : StoreView) (fs gs : List SceneFrame) (n : ℕ) (p : Parent) → n < length fs → ((f : SceneFrame) → slice_get fs n ≡ Some f → gs ≡ slice_set fs n (record f { parent = p }))
    → HasNames p → FramesOf s fs → FramesOf s gs
parent-put s fs gs n p h set names of =
    let it = there-is fs n h in
    let own = frame-there s fs n it.0 of it.1 in
    subst (FramesOf s) (sym (set it.0 it.1)) (frames-set s fs n _ of (record { table = own.table; names = own.names; parent = names }))

-- the names of arguments differ in the scene of a parent that was not made
pub unmade-names : (s : StoreView) (fs : List SceneFrame) (n : ℕ) (scene : Scene) → n < length fs → ((f : SceneFrame) → slice_get fs n ≡ Some f → kin.Unmade scene ≡ f.parent) → FramesOf s fs → NamesDiffer scene.args
unmade-names s fs n scene h was of =
    let it = there-is fs n h in
    subst HasNames (sym (was it.0 it.1)) (frame-there s fs n it.0 of it.1).parent

pub unmade-same : (a b : Scene) → kin.Unmade a ≡ kin.Unmade b → a ≡ b
unmade-same a b e = cc

abbrev pub new-frame : Scene → TableId → SceneFrame
new-frame scene table = record { scene = scene; table = table; parent = kin.Nobody }
