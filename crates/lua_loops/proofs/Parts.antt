-- How moves of loops are made of parts.
use Rattle.std.proofs.Common.{◌≡◌, ◌∙◌, refl, sym, ap, subst, ℕ, ◌+◌, Bool, List, [], ◌∷◌}
use Rattle.std.specs.Prelude.{ℤ}
use Rattle.page_run.specs.WkBaseDeclaredLeftLeft.{Left}
use Rattle.lua_code.specs.LuaMeaningValues.{first}
use Rattle.lua_state.specs.LuaStoreDeclaredValueValue.{Value}
use Rattle.lua_state.specs.LuaStoreSeen.{StoreView, seen}
use Rattle.lua_state.specs.LuaStoreParts.{IsOf}
use Rattle.lua_state.proofs.LuaStoreLater.{later-itself}
use Rattle.lua_code.specs.LuaSlotsCode.{CBlock}
use Rattle.lua_state.specs.LuaSlotsSlots.{Slots}
use Rattle.lua_state.specs.LuaSlotsPoints.{SFrame, CountEnd, Move, Marks, Now}
use Rattle.lua_code.specs.LuaSlotsLoops.{count_next}
use Rattle.lua_state.specs.LuaStackDeclaredFocusFocus.{Focus}
use Rattle.lua_state.specs.LuaStackDeclaredFrameFrame.{Frame}
use Rattle.lua_state.specs.LuaStackDeclaredValuesGiven.{Given}
use Rattle.lua_state.specs.LuaStackLists.{first_stored, rest_stored, given_values}
use Rattle.lua_state.specs.LuaStackSeen.{focus_seen, given_seen}
use Rattle.lua_state.specs.LuaStackOf.{ValuesOf, FramesOf, FocusOf}
use Rattle.lua_state.proofs.LuaStackOpenings.{first_seen}
use Rattle.lua_state.specs.LuaArmsDeclaredStepStep.{Step}
use Rattle.lua_state.specs.LuaArmsSteps.{step_seen}
use Rattle.lua_state.specs.declared.state.State.{State}
use Rattle.lua_state.specs.declared.turn.Turn.{Turn}
use Rattle.lua_state.specs.declared.turn.Turn.TheVariants as turn
use Rattle.lua_state.specs.Seen.{slots_of, frames_of}
use Rattle.lua_state.specs.Of.{StateOf}
use Rattle.lua_state.specs.Makes.{Makes, Counts}
use Rattle.lua_state.proofs.Making.{from_parts, stands, counts_none, counts_mark}

abbrev pub with_frames : State → List Frame → State
with_frames m fs = record m { frames = fs }

pub with_frames_of : (s : StoreView) (m : State) (fs : List Frame) → StateOf s m → FramesOf s fs → StateOf s (with_frames m fs)
with_frames_of s m fs h k = record { frames = k; regs = h.regs; functions = h.functions; env = h.env; modules = h.modules; loaded = h.loaded; scenes = h.scenes; codes = h.codes }

-- WHAT IS NEXT is known, above these frames
pub on : (s : StoreView) (m : State) (fs : List Frame) (l : Left) (f : Focus) → StateOf s m → FramesOf s fs → FocusOf s f
    → Makes s m l s (with_frames m fs) l (Now (focus_seen s f (frames_of s (with_frames m fs))) (slots_of s m)) (turn.On f)
on s m fs l f of frames focus = stands s s m (with_frames m fs) l (Now (focus_seen s f (frames_of s (with_frames m fs))) (slots_of s m)) f (with_frames_of s m fs of frames) refl refl refl (later-itself s) focus refl

-- AN ARM THAT CHARGES NOTHING at the same store, above other frames, and its end
pub stepped : (s t : StoreView) (m : State) (fs : List Frame) (l l' : Left) (mv : Move) (st : Step) (r : Turn) → mv ≡ step_seen s st (frames_of s (with_frames m fs)) (slots_of s m)
    → Makes s (with_frames m fs) l t (with_frames m fs) l' (step_seen s st (frames_of s (with_frames m fs)) (slots_of s (with_frames m fs))) r → Makes s m l t (with_frames m fs) l' mv r
stepped s t m fs l l' mv st r e made = from_parts s t m (with_frames m fs) (with_frames m fs) l l' mv (step_seen s st (frames_of s (with_frames m fs)) (slots_of s m)) r refl refl refl e made

-- the same move in other words
pub same_move : (s t : StoreView) (m m' : State) (l l' : Left) (mv nv : Move) (r : Turn) → nv ≡ mv → Makes s m l t m' l' nv r → Makes s m l t m' l' mv r
same_move s t m m' l l' mv nv r e made = subst (λ (x : Move). Makes s m l t m' l' x r) e made

-- one more is counted
pub counted : (s t : StoreView) (m m' : State) (l l' : Left) (k k' : ℕ) (mv : Move) (r : Turn) → k' ≡ k + 1 → Makes s m l t m' l' mv r → Counts s m l k t m' l' k' (Marks mv) r
counted s t m m' l l' k k' mv r q made = counts_mark s t m m' l l' k k' k' mv r q (counts_none s t m m' l l' k' k' mv r refl made)

-- the first of some values
pub seen_first : (texts : List (List ℕ)) (g : Given) (v : Value) → v ≡ first_stored (given_values g) → seen texts v ≡ first (given_seen texts g)
seen_first texts g v e = ap (seen texts) e ∙ first_seen texts (given_values g)

-- the numbers as a call tells them are the numbers that they are
pub counted_on : (boxed : Bool) (i index l limit t step : ℤ) (b : CBlock) (fs : List SFrame) (s : Slots) (mv : Move) → i ≡ index → l ≡ limit → t ≡ step
    → count_next boxed i l t b fs s ≡ mv → count_next boxed index limit step b fs s ≡ mv
counted_on boxed i index l limit t step b fs s mv p q u h =
    ap (λ (x : ℤ). count_next boxed x limit step b fs s) (sym p) ∙ ap (λ (x : ℤ). count_next boxed i x step b fs s) (sym q) ∙ ap (λ (x : ℤ). count_next boxed i l x b fs s) (sym u) ∙ h

pub counts_at_end : (d n : ℕ) (boxed : Bool) (i index l limit t step : ℤ) (b : CBlock) → d ≡ n → i ≡ index → l ≡ limit → t ≡ step → CountEnd d boxed i l t b ≡ CountEnd n boxed index limit step b
counts_at_end d n boxed i index l limit t step b e p q u = rw (e, p, q, u) refl

-- the first three of some values are of the store
first_of_rest : (s : StoreView) (vs : List Value) → ValuesOf s vs → IsOf s (first_stored vs) × ValuesOf s (rest_stored vs)
first_of_rest s [] h = (tt, tt)
first_of_rest s (v ∷ vs) h = h

pub taken_of : (s : StoreView) (vs more : List Value) (v : Value) → v ≡ first_stored vs → more ≡ rest_stored vs → ValuesOf s vs → IsOf s v × ValuesOf s more
taken_of s vs more v e f h = (subst (IsOf s) (sym e) (first_of_rest s vs h).0, subst (ValuesOf s) (sym f) (first_of_rest s vs h).1)
