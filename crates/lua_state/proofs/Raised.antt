-- An error with its message is the end of a move.
use Rattle.std.proofs.Common.{◌≡◌, ◌∙◌, refl, sym, ap, subst, ℕ, List, Option, Some, None}
use Rattle.std.specs.Option.{option_map, IfSome}
use Rattle.mw_frames.specs.WkBaseDeclaredLeftLeft.{Left}
use Rattle.lua_arms.specs.PageRunState.{Tally}
use Rattle.lua_code.specs.LuaMeaningScope.{Bytes, Place}
use Rattle.mw_frames.specs.LuaMeaningMessages.{nth_level}
use Rattle.mw_frames.specs.LuaStoreSeen.{StoreView}
use Rattle.mw_frames.specs.LuaStoreParts.{IsLater, IsTextOf}
use Rattle.lua_goes.specs.LuaSlotsSlots.{Slots, levels_at}
use Rattle.lua_goes.specs.LuaSlotsPoints.{SFrame, Move}
use Rattle.lua_code.specs.LuaSlotsEnact.{Funds, enact}
use Rattle.lua_arms.specs.LuaSlotsErrors.{raises, raises_quote, fails, fails_quoting}
use Rattle.lua_arms.specs.LuaStackDeclaredActivationLevel.{Level}
use Rattle.lua_arms.specs.LuaStackDeclaredFocusFocusTheVariants as focus
use Rattle.lua_arms.specs.LuaStackDeclaredFocusJumpTheVariants as jump
use Rattle.lua_arms.specs.LuaStackDeclaredFrameFrame.{Frame}
use Rattle.lua_arms.specs.LuaStackDeclaredRaisingRaising.{Raising}
use Rattle.lua_arms.specs.LuaStackDeclaredRaisingRaisingTheVariants as raising
use Rattle.lua_arms.specs.LuaStackSeen.{frames_seen, level_seen, activations_seen}
use Rattle.lua_arms.specs.LuaStackOf.{FramesOf}
use Rattle.lua_arms.specs.LuaStackRaised.{raised_seen, RaisingOf, place_seen, MayBeLevelOf}
use Rattle.lua_state.specs.declared.state.State.{State}
use Rattle.lua_state.specs.declared.turn.Turn.{Turn}
use Rattle.lua_state.specs.declared.turn.Turn.TheVariants as turn
use Rattle.lua_state.specs.Seen.{slots_of, frames_of, funds_of, turn_seen}
use Rattle.lua_state.specs.Of.{StateOf, TurnOf}
use Rattle.lua_state.specs.Makes.{IfSpent, Makes}
use Rattle.lua_state.proofs.Staying.{state_later, slots_same}

-- what an error comes to, as a turn
abbrev pub turn_of : Raising → Turn
turn_of (raising.Raises v) = turn.On (focus.Jumps (jump.Raised v))
turn_of (raising.Spent which) = turn.Spent which

-- how an error is raised with a message, at a place or at none
abbrev pub Way : Type 0
Way = Option Place → Bytes → List SFrame → Slots → Move

-- what `raise_text` and `raise_quote` say of their moves
abbrev pub RaisesBy : Way → StoreView → Left → StoreView → Left → Option Level → Bytes → Raising → Type 0
RaisesBy way s l t l' place message r = (frames : List Frame) → FramesOf s frames → (x : Slots) (in_progress : ℕ) (tally : Tally)
    → enact (way (place_seen s.texts place) message (frames_seen s.texts frames) x) (record { left = l; in_progress = in_progress; tally = tally })
    ≡ raised_seen t.texts r (frames_seen t.texts frames) x (record { left = l'; in_progress = in_progress; tally = tally })

abbrev pub Raises : StoreView → Left → StoreView → Left → Option Level → Bytes → Raising → Type 0
Raises s l t l' place message r = RaisesBy raises s l t l' place message r

pub may_be : (s : StoreView) (o : Option Level) → IfSome o (λ l. IsTextOf s l.source) → MayBeLevelOf s o
may_be s None h = tt
may_be s (Some l) h = h

place_is : (texts : List (List ℕ)) (place : Option Level) → place_seen texts place ≡ option_map (level_seen texts) place
place_is texts None = refl
place_is texts (Some p) = refl

as_turn : (t : StoreView) (m : State) (r : Raising) (f : Funds) → raised_seen t.texts r (frames_of t m) (slots_of t m) f ≡ turn_seen t m (turn_of r) f
as_turn t m (raising.Raises v) f = refl
as_turn t m (raising.Spent which) f = refl

is_of : (t : StoreView) (r : Raising) → RaisingOf t r → TurnOf t (turn_of r)
is_of t (raising.Raises v) h = h
is_of t (raising.Spent which) h = tt

if_spent : {A : Type 0} (r : Raising) → A → IfSpent (turn_of r) A
if_spent (raising.Raises v) a = tt
if_spent (raising.Spent which) a = a

raised_by : (way : Way) (s t : StoreView) (m : State) (l l' : Left) (p : Option Place) (place : Option Level) (message : Bytes) (r : Raising) → StateOf s m → IsLater s t → t.heap ≡ s.heap → RaisingOf t r
    → option_map (level_seen s.texts) place ≡ p → RaisesBy way s l t l' place message r
    → Makes s m l t m l' (way p message (frames_of s m) (slots_of s m)) (turn_of r)
raised_by way s t m l l' p place message r of later heap raised at move_ = record {
  state = state_later s t later m of;
  world = refl;
  of = is_of t r raised;
  later = later;
  still = if_spent r heap;
  makes = λ told n.
      ap (λ (q : Option Place). enact (way q message (frames_of s m) (slots_of s m)) (funds_of l m told n)) (sym at ∙ sym (place_is s.texts place))
      ∙ move_ m.frames of.frames (slots_of s m) m.calls (record told { height = m.height; nodes = n })
      ∙ ap (λ (x : Slots). raised_seen t.texts r (frames_of t m) x (funds_of l' m told n)) (sym (slots_same s t later m of heap))
      ∙ as_turn t m r (funds_of l' m told n);
}

pub raised_at : (s t : StoreView) (m : State) (l l' : Left) (p : Option Place) (place : Option Level) (message : Bytes) (r : Raising) → StateOf s m → IsLater s t → t.heap ≡ s.heap → RaisingOf t r
    → option_map (level_seen s.texts) place ≡ p → Raises s l t l' place message r
    → Makes s m l t m l' (raises p message (frames_of s m) (slots_of s m)) (turn_of r)
raised_at s t m l l' p place message r of later heap raised at move_ = raised_by raises s t m l l' p place message r of later heap raised at move_

-- where a turn is known to be what the error comes to
pub failed : (s t : StoreView) (m : State) (l l' : Left) (line : Option ℕ) (place : Option Level) (message : Bytes) (r : Raising) (z : Raising) → r ≡ z → StateOf s m → IsLater s t → t.heap ≡ s.heap → RaisingOf t r
    → ((x : StoreView) → option_map (level_seen x.texts) place ≡ nth_level (levels_at (activations_seen x m.functions) line) 1) → Raises s l t l' place message r
    → Makes s m l t m l' (fails line message (frames_of s m) (slots_of s m)) (turn_of z)
failed s t m l l' line place message r z e of later heap raised at move_ =
    subst (λ (y : Raising). Makes s m l t m l' (fails line message (frames_of s m) (slots_of s m)) (turn_of y)) e
    (raised_at s t m l l' (nth_level (levels_at (activations_seen s m.functions) line) 1) place message r of later heap raised (at s) move_)

-- and so it is with a message that quotes
pub failed_quoting : (s t : StoreView) (m : State) (l l' : Left) (line : Option ℕ) (place : Option Level) (message : Bytes) (r : Raising) (z : Raising) → r ≡ z → StateOf s m → IsLater s t → t.heap ≡ s.heap → RaisingOf t r
    → ((x : StoreView) → option_map (level_seen x.texts) place ≡ nth_level (levels_at (activations_seen x m.functions) line) 1) → RaisesBy raises_quote s l t l' place message r
    → Makes s m l t m l' (fails_quoting line message (frames_of s m) (slots_of s m)) (turn_of z)
failed_quoting s t m l l' line place message r z e of later heap raised at move_ =
    subst (λ (y : Raising). Makes s m l t m l' (fails_quoting line message (frames_of s m) (slots_of s m)) (turn_of y)) e
    (raised_by raises_quote s t m l l' (nth_level (levels_at (activations_seen s m.functions) line) 1) place message r of later heap raised (at s) move_)
