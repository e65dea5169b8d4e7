-- A CALL IS ENTERED, and counted; above it a frame ends it.
use Rattle.std.proofs.Common.{◌≡◌, ◌∙◌, refl, sym, ap, subst, arith, ℕ, ◌+◌, List, inl, true, false}
use Rattle.page_run.specs.WkBaseDeclaredLeftLeft.{Left}
use Rattle.page_run.specs.declared.which.Which.TheVariants.{Calls}
use Rattle.lua_tables.specs.LuaStoreSeen.{StoreView}
use Rattle.lua_tables.proofs.LuaStoreLater.{later-itself}
use Rattle.lua_modules.specs.LuaSlotsPoints.{Move, Marks, Enters, Now}
use Rattle.lua_code.specs.LuaSlotsEnact.{all_given_back, Short, enact}
use Rattle.lua_modules.specs.LuaGoesGoing.{led}
use Rattle.lua_modules.specs.LuaStackDeclaredFrameFrame.{Frame}
use Rattle.lua_modules.specs.LuaStackDeclaredFocusFocus.{Focus}
use Rattle.lua_modules.specs.LuaStackSeen.{focus_seen}
use Rattle.lua_modules.specs.LuaStackOf.{FramesOf, FocusOf}
use Rattle.lua_modules.specs.LuaStateDeclaredStateState.{State}
use Rattle.lua_modules.specs.LuaStateDeclaredTurnTurn.{Turn}
use Rattle.lua_modules.specs.LuaStateDeclaredTurnTurnTheVariants as turn
use Rattle.lua_modules.specs.LuaStateSeen.{slots_of, frames_of, funds_of}
use Rattle.lua_modules.specs.LuaStateOf.{StateOf}
use Rattle.lua_modules.specs.LuaStateMakes.{Makes, LateMakes, LateCounts}
use Rattle.lua_modules.specs.LuaStateCharges.{EntersCall}
use Rattle.lua_modules.proofs.LuaStateMaking.{stands, late_after, late_counts_none, late_counts_mark}
use Rattle.lua_acts.proofs.Parts.{with_frames, with_frames_of, if_spent}

-- above other frames
pub late_above : (s t : StoreView) (m m' : State) (fs : List Frame) (l l' : Left) (mv nv : Move) (r : Turn) → mv ≡ nv → LateMakes s (with_frames m fs) l t m' l' nv r → LateMakes s m l t m' l' mv r
late_above s t m m' fs l l' mv nv r e made =
    late_after s s t m (with_frames m fs) m' l l l' mv nv r refl (later-itself s) (if_spent (s.heap ≡ s.heap) r refl) (ap (λ (x : Move). (led x).heap) e)
    (λ told i. ap (λ (x : Move). enact x (funds_of l m told i)) e) made

-- calls in progress, and the most of them, are all that entering changes
abbrev in_calls : State → ℕ → ℕ → State
in_calls m calls height = record m { calls = calls; height = height }

pub calls_of : (s : StoreView) (m n : State) → n ≡ in_calls m n.calls n.height → StateOf s m → StateOf s n
calls_of s m n e h =
    let same : StateOf s (in_calls m n.calls n.height) = record { frames = h.frames; regs = h.regs; functions = h.functions; env = h.env; modules = h.modules; loaded = h.loaded; scenes = h.scenes; codes = h.codes } in
    subst (StateOf s) (sym e) same

module _ (s t : StoreView) (m n m' : State) (l k l' : Left) (j i' : ℕ) (r : Turn) (e : n ≡ in_calls m n.calls n.height) where
  enters : (mv : Move) → EntersCall m l n k true → LateCounts s n k j t m' l' i' mv r → LateCounts s m l j t m' l' i' (Enters mv) r
  enters mv called made = record {
    state = made.state;
    world = made.world ∙ ap (λ (x : State). x.codes.world) e;
    of = made.of;
    later = made.later;
    still = made.still;
    rises = made.rises;
    makes = λ told a b q. called mv told a ∙ made.makes told a b q;
  }

  -- what is done is the same in both states
  pub entered : (f : State → Move) → ((calls height : ℕ) → f (in_calls m calls height) ≡ f m) → EntersCall m l n k true → i' ≡ j + 1 → LateMakes s n k t m' l' (f n) r
      → LateCounts s m l j t m' l' i' (Enters (Marks (f m))) r
  entered f alike called up made =
      enters (Marks (f m)) called
      (late_counts_mark s t n m' k l' j i' i' (f m) r up
      (late_counts_none s t n m' k l' i' i' (f m) r refl (subst (λ (mv : Move). LateMakes s n k t m' l' mv r) (ap f e ∙ alike n.calls n.height) made)))

-- no call is left
pub no_call : (s : StoreView) (m n : State) (l k : Left) (j : ℕ) (mv : Move) → n ≡ in_calls m n.calls n.height → StateOf s m → EntersCall m l n k false → LateCounts s m l j s n k j (Enters mv) (turn.Spent Calls)
no_call s m n l k j mv e of called = record {
  state = calls_of s m n e of;
  world = ap (λ (x : State). x.codes.world) e;
  of = tt;
  later = later-itself s;
  still = inl refl;
  rises = omega arith;
  makes = λ told a b q. let same : a ≡ b = omega (arith, q) in called mv told a ∙ ap (λ x. Short Calls (all_given_back (funds_of k n told x))) same;
}

-- what is next is known, above other frames
pub on_above : (s : StoreView) (m : State) (fs : List Frame) (l : Left) (f : Focus) → StateOf s m → FramesOf s fs → FocusOf s f
    → Makes s m l s (with_frames m fs) l (Now (focus_seen s f (frames_of s (with_frames m fs))) (slots_of s m)) (turn.On f)
on_above s m fs l f of frames focus = stands s s m (with_frames m fs) l (Now (focus_seen s f (frames_of s (with_frames m fs))) (slots_of s m)) f (with_frames_of s m fs of frames) refl refl refl (later-itself s) focus refl
