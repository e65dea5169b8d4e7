-- A FUNCTION THAT SEES THE FRAMES: its charge is taken and it ends, asks or walks, or its charge is not covered.
use Rattle.std.proofs.Common.{◌≡◌, ◌∙◌, refl, sym, ap, subst, ℕ, List, Option, Ok, Err, inl}
use Rattle.std.specs.Prelude.{Result}
use Rattle.page_run.specs.WkBaseDeclaredLeftLeft.{Left}
use Rattle.page_run.specs.declared.which.Which.TheVariants.{Steps}
use Rattle.lua_code.specs.LuaHeapProc.{Proc}
use Rattle.lua_code.specs.LuaMeaningActs.{Frame}
use Rattle.lua_tables.specs.LuaMeaningArguments.{Fails}
use Rattle.mw_frame_calls.specs.LuaMeaningFrameMethods.{Framed, FramedEnd, FrameEnds}
use Rattle.lua_tables.specs.LuaStoreSeen.{StoreView, seen}
use Rattle.lua_tables.specs.LuaStoreParts.{IsLater}
use Rattle.lua_tables.proofs.LuaStoreLater.{later-itself}
use Rattle.lua_modules.specs.LuaSlotsSlots.{Slots}
use Rattle.lua_modules.specs.LuaSlotsPoints.{SFrame, Move}
use Rattle.lua_code.specs.LuaSlotsEnact.{all_given_back, Short, enact}
use Rattle.lua_code.specs.LuaSlotsLibraries.{framed_end, framed, with_frames}
use Rattle.lua_modules.proofs.LuaStackRaises.{pays, spends as falls_short}
use Rattle.lua_tables.specs.LuaBasicDeclaredStopStop.{Stop}
use Rattle.lua_tables.specs.LuaBasicDeclaredStopStopTheVariants as stop
use Rattle.lua_modules.specs.MwFramesDeclaredScenesScenes.{Scenes}
use Rattle.lua_modules.specs.MwFramesScenes.{ScenesOf}
use Rattle.mw_frame_calls.specs.declared.answer.FrameAnswer.{FrameAnswer}
use Rattle.mw_frame_calls.specs.Seen.{scenes_seen, end_seen, Covers, IsShort, Paid}
use Rattle.lua_modules.specs.LuaStateDeclaredStateState.{State}
use Rattle.lua_modules.specs.LuaStateDeclaredTurnTurn.{Turn}
use Rattle.lua_modules.specs.LuaStateDeclaredTurnTurnTheVariants as turn
use Rattle.lua_modules.specs.LuaStateSeen.{slots_of, frames_of, funds_of}
use Rattle.lua_modules.specs.LuaStateOf.{StateOf}
use Rattle.lua_modules.specs.LuaStateMakes.{Makes, LateMakes}
use Rattle.lua_modules.proofs.LuaStateStaying.{state_later, frames_stay, slots_stay}
use Rattle.lua_modules.proofs.LuaStateMaking.{late_changed}
use Rattle.lua_calls.specs.Ends.{FramedEndsAs}
use Rattle.lua_calls.proofs.Led.{led_framed}

abbrev pub with_scenes : State → Scenes → State
with_scenes m x = record m { scenes = x }

pub with_scenes_of : (s u : StoreView) (m : State) (x : Scenes) → StateOf s m → IsLater s u → ScenesOf u x → StateOf u (with_scenes m x)
with_scenes_of s u m x of later h =
    let k = state_later s u later m of in record { frames = k.frames; regs = k.regs; functions = k.functions; env = k.env; modules = k.modules; loaded = k.loaded; scenes = h; codes = k.codes }

-- the slots with other frames of the run
abbrev in_frames : List Frame → Slots → Slots
in_frames frames s = record s { frames = frames }

module _ (s u t : StoreView) (m m' : State) (x : Scenes) (l k l' : Left) (line : Option ℕ) (f : Framed Proc) (r : Turn) (of : StateOf s m) (later : IsLater s u) where
  same_end : (end : FramedEnd) → Covers f l u (scenes_seen x) k end
      → framed_end f.end line (frames_of s m) (with_frames f (slots_of s m)) ≡ framed_end end line (frames_of u (with_scenes m x)) (slots_of u (with_scenes m x))
  same_end end paid =
      ap (λ (q : Framed Proc). framed_end q.end line (frames_of s m) (with_frames q (slots_of s m))) paid.answer
      ∙ ap (λ (fs : List SFrame). framed_end end line fs (in_frames (scenes_seen x) (record (slots_of s m) { heap = u.heap }))) (sym (frames_stay s u later m of))
      ∙ ap (λ (z : Slots). framed_end end line (frames_of u m) (in_frames (scenes_seen x) z)) (sym (slots_stay s u later m of))

  covered : (end : FramedEnd) → Covers f l u (scenes_seen x) k end
      → Makes u (with_scenes m x) k t m' l' (framed_end end line (frames_of u (with_scenes m x)) (slots_of u (with_scenes m x))) r → LateMakes s m l t m' l' (framed f line (frames_of s m) (slots_of s m)) r
  covered end paid made =
      late_changed s u t m (with_scenes m x) m' l k l' (framed f line (frames_of s m) (slots_of s m)) (framed_end end line (frames_of u (with_scenes m x)) (slots_of u (with_scenes m x))) r refl later
      (sym (ap (λ (z : Slots). z.heap) (led_framed f.end line (frames_of s m) (with_frames f (slots_of s m))) ∙ ap (λ (q : Framed Proc). q.heap) paid.answer))
      (λ told i.
      pays f.charge (framed_end f.end line (frames_of s m) (with_frames f (slots_of s m))) (funds_of l m told i) paid.covered
      ∙ ap (λ (z : Left). enact (framed_end f.end line (frames_of s m) (with_frames f (slots_of s m))) (funds_of z m told i)) (sym paid.rest)
      ∙ ap (λ (mv : Move). enact mv (funds_of k m told i)) (same_end end paid)) made

  -- the charge is not covered, and the turn is that the steps are spent
  short_at : StateOf s (with_scenes m x) → IsShort f s (scenes_seen m.scenes) l u (scenes_seen x) k → LateMakes s m l s (with_scenes m x) k (framed f line (frames_of s m) (slots_of s m)) (turn.Spent Steps)
  short_at has short = record {
    state = has;
    world = refl;
    of = tt;
    later = later-itself s;
    still = inl refl;
    makes = λ told i.
        falls_short f.charge (framed_end f.end line (frames_of s m) (with_frames f (slots_of s m))) (funds_of l m told i) short.short
        ∙ ap (λ (z : Left). Short Steps (all_given_back (funds_of z m told i))) (sym short.rest);
  }

  short : StateOf u (with_scenes m x) → IsShort f s (scenes_seen m.scenes) l u (scenes_seen x) k → (m' ≡ with_scenes m x) × ((r ≡ turn.Spent Steps) × (t ≡ u) × (l' ≡ k))
      → LateMakes s m l t m' l' (framed f line (frames_of s m) (slots_of s m)) r
  short has lacks stops =
      let mv = framed f line (frames_of s m) (slots_of s m) in
      subst (λ (n : State). LateMakes s m l t n l' mv r) (sym stops.0)
      (subst (λ (z : Turn). LateMakes s m l t (with_scenes m x) l' mv z) (sym stops.1.0)
      (subst (λ (y : StoreView). LateMakes s m l y (with_scenes m x) l' mv (turn.Spent Steps)) (sym (stops.1.1 ∙ lacks.same))
      (subst (λ (z : Left). LateMakes s m l s (with_scenes m x) z mv (turn.Spent Steps)) (sym stops.1.2) (short_at (subst (λ (y : StoreView). StateOf y (with_scenes m x)) lacks.same has) lacks))))

  raised : (end : FramedEnd) → Covers f l u (scenes_seen x) k end → m' ≡ with_scenes m x
      → Makes u (with_scenes m x) k t (with_scenes m x) l' (framed_end end line (frames_of u (with_scenes m x)) (slots_of u (with_scenes m x))) r → LateMakes s m l t m' l' (framed f line (frames_of s m) (slots_of s m)) r
  raised end paid e made =
      covered end paid
      (subst (λ (n : State). Makes u (with_scenes m x) k t n l' (framed_end end line (frames_of u (with_scenes m x)) (slots_of u (with_scenes m x))) r) (sym e) made)

  pub framed_ends : StateOf u (with_scenes m x) → (answer : Result FrameAnswer Stop) → Paid f s (scenes_seen m.scenes) l u (scenes_seen x) k answer → FramedEndsAs u (with_scenes m x) k line answer t m' l' r
      → LateMakes s m l t m' l' (framed f line (frames_of s m) (slots_of s m)) r
  framed_ends has (Ok a) paid made = covered (end_seen u.texts a) paid made
  framed_ends has (Err (stop.Raised v level)) paid made = raised (FrameEnds (Fails (seen u.texts v) level)) paid made.0 made.1
  framed_ends has (Err stop.Spent) paid stops = short has paid stops
  framed_ends has (Err stop.NoMemory) paid stops = absurd stops.1
