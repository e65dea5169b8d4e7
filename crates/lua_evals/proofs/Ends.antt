-- How moves of expressions are made of parts.
use Rattle.std.proofs.Common.{◌≡◌, ◌∙◌, true, false, refl, sym, ap, ℕ, List}
use Rattle.page_run.specs.WkBaseDeclaredLeftLeft.{Left}
use Rattle.page_run.specs.declared.which.Which.TheVariants.{Steps}
use Rattle.page_run.specs.State.{Tally}
use Rattle.lua_operators.specs.LuaStoreSeen.{StoreView}
use Rattle.lua_operators.specs.LuaStoreParts.{IsLater}
use Rattle.lua_operators.proofs.LuaStoreLater.{later-itself}
use Rattle.lua_operators.specs.LuaSlotsSlots.{Slots, with_heap}
use Rattle.lua_operators.specs.LuaSlotsPoints.{SFrame, Move, Costs, Now}
use Rattle.lua_operators.specs.LuaSlotsEnact.{enact}
use Rattle.lua_state.specs.LuaStackDeclaredFocusFocus.{Focus}
use Rattle.lua_state.specs.LuaStackDeclaredFrameFrame.{Frame}
use Rattle.lua_operators.specs.LuaStackSeen.{focus_seen}
use Rattle.lua_operators.specs.LuaStackOf.{FramesOf, FocusOf}
use Rattle.lua_state.specs.LuaArmsDeclaredStepStep.{Step}
use Rattle.lua_state.specs.LuaArmsDeclaredStepStepTheVariants as step
use Rattle.lua_state.specs.LuaArmsDeclaredStepPaid.{Paid}
use Rattle.lua_state.specs.LuaArmsDeclaredStepPaidTheVariants as paid
use Rattle.lua_state.specs.LuaArmsSteps.{step_seen}
use Rattle.lua_state.specs.LuaArmsPaid.{paid_seen, IfSpent as IfStopped}
use Rattle.lua_state.specs.declared.state.State.{State}
use Rattle.lua_state.specs.declared.turn.Turn.{Turn}
use Rattle.lua_state.specs.declared.turn.Turn.TheVariants as turn
use Rattle.lua_state.specs.Seen.{slots_of, frames_of, funds_of, turn_seen}
use Rattle.lua_state.specs.Of.{StateOf, TurnOf}
use Rattle.lua_state.specs.Makes.{IfSpent, Makes}
use Rattle.lua_state.specs.Charges.{Pays}
use Rattle.lua_state.proofs.Staying.{frames_stay, slots_stay, slots_same}
use Rattle.lua_state.proofs.Making.{after, from_parts, stands, spends, UnlessOn, from_paid}

abbrev pub with_frames : State → List Frame → State
with_frames m fs = record m { frames = fs }

pub with_frames_of : (s : StoreView) (m : State) (fs : List Frame) → StateOf s m → FramesOf s fs → StateOf s (with_frames m fs)
with_frames_of s m fs h k = record { frames = k; regs = h.regs; functions = h.functions; env = h.env; modules = h.modules; loaded = h.loaded; scenes = h.scenes; codes = h.codes }

if_spent : (A : Type 0) (r : Turn) → A → IfSpent r A
if_spent A (turn.On focus) h = tt
if_spent A (turn.Spent which) h = h

-- WHAT IS NEXT is known, above these frames
pub on : (s : StoreView) (m : State) (fs : List Frame) (l : Left) (f : Focus) → StateOf s m → FramesOf s fs → FocusOf s f
    → Makes s m l s (with_frames m fs) l (Now (focus_seen s f (frames_of s (with_frames m fs))) (slots_of s m)) (turn.On f)
on s m fs l f of frames focus = stands s s m (with_frames m fs) l (Now (focus_seen s f (frames_of s (with_frames m fs))) (slots_of s m)) f (with_frames_of s m fs of frames) refl refl refl (later-itself s) focus refl

-- A TEXT was made first, and the move is the one that is made from there
pub over_text : (s u t : StoreView) (m m' : State) (l l' : Left) (r : Turn) (f : List SFrame → Slots → Move) → StateOf s m → IsLater s u → u.heap ≡ s.heap
    → Makes u m l t m' l' (f (frames_of u m) (slots_of u m)) r → Makes s m l t m' l' (f (frames_of s m) (slots_of s m)) r
over_text s u t m m' l l' r f of later same made =
    after s u t m m m' l l l' (f (frames_of s m) (slots_of s m)) (f (frames_of u m) (slots_of u m)) r refl later (if_spent (u.heap ≡ s.heap) r same)
    (λ told i.
    ap (λ (fs : List SFrame). enact (f fs (slots_of s m)) (funds_of l m told i)) (sym (frames_stay s u later m of))
    ∙ ap (λ (x : Slots). enact (f (frames_of u m) x) (funds_of l m told i)) (sym (slots_same s u later m of same))) made

-- STEPS were taken first, or are not there
pub costs : (s t : StoreView) (m m' : State) (l k l' : Left) (n : ℕ) (mv : Move) (r : Turn) → Pays n l k true → Makes s m k t m' l' mv r → Makes s m l t m' l' (Costs n mv) r
costs s t m m' l k l' n mv r pays made = after s s t m m m' l k l' (Costs n mv) mv r refl (later-itself s) (if_spent (s.heap ≡ s.heap) r refl) (λ told i. pays m mv told i) made

pub short : (s : StoreView) (m : State) (l k : Left) (n : ℕ) (mv : Move) → StateOf s m → Pays n l k false → Makes s m l s m k (Costs n mv) (turn.Spent Steps)
short s m l k n mv of pays = spends s s m l k (Costs n mv) Steps of (later-itself s) refl (λ told i. pays m mv told i)

-- AN ARM WHOSE CHARGES ARE TAKEN, and its end
unless : (s u : StoreView) (p : Paid) → IfStopped p (u ≡ s) → UnlessOn p (u.heap ≡ s.heap)
unless s u (paid.Goes (step.On f)) h = tt
unless s u (paid.Goes (step.Fails line f)) h = ap (λ (x : StoreView). x.heap) h
unless s u (paid.Spent which) h = ap (λ (x : StoreView). x.heap) h

pub paid_arm : (s u t : StoreView) (m : State) (fs : List Frame) (l k l' : Left) (mv : Move) (p : Paid) (r : Turn) → StateOf s m → IsLater s u → IfStopped p (u ≡ s)
    → ((told : Tally) (i : ℕ) → enact mv (funds_of l m told i) ≡ paid_seen u p (frames_of u (with_frames m fs)) (with_heap u.heap (slots_of s m)) (funds_of k m told i))
    → StateOf t (with_frames m fs) × TurnOf t r → IsLater u t → t.heap ≡ u.heap
    → ((told : Tally) (i : ℕ) → paid_seen u p (frames_of u (with_frames m fs)) (slots_of u (with_frames m fs)) (funds_of k (with_frames m fs) told i) ≡ turn_seen t (with_frames m fs) r (funds_of l' (with_frames m fs) told i))
    → Makes s m l t (with_frames m fs) l' mv r
paid_arm s u t m fs l k l' mv p r of later still e ended more same ends =
    from_paid s u t m (with_frames m fs) l k l' mv p r refl later (unless s u p still)
    (λ told i. e told i ∙ ap (λ (x : Slots). paid_seen u p (frames_of u (with_frames m fs)) x (funds_of k m told i)) (sym (slots_stay s u later m of))) ended more same ends

-- AN ARM THAT CHARGES NOTHING at the same store, above other frames, and its end
pub stepped : (s t : StoreView) (m : State) (fs : List Frame) (l l' : Left) (mv : Move) (st : Step) (r : Turn) → mv ≡ step_seen s st (frames_of s (with_frames m fs)) (slots_of s m)
    → Makes s (with_frames m fs) l t (with_frames m fs) l' (step_seen s st (frames_of s (with_frames m fs)) (slots_of s (with_frames m fs))) r → Makes s m l t (with_frames m fs) l' mv r
stepped s t m fs l l' mv st r e made = from_parts s t m (with_frames m fs) (with_frames m fs) l l' mv (step_seen s st (frames_of s (with_frames m fs)) (slots_of s m)) r refl refl refl e made
