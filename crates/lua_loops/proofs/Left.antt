-- Registers, functions and calls that are given back.
use Rattle.std.proofs.Common.{◌≡◌, ◌∙◌, refl, sym, ap, subst, ℕ, suc, zero, ◌-◌, List, [], ◌∷◌, length, drop}
use Rattle.std.proofs.lemmas.List.{drop-map, length-map}
use Rattle.page_run.specs.WkBaseDeclaredLeftLeft.{Left}
use Rattle.lua_state.specs.LuaStoreSeen.{StoreView}
use Rattle.lua_state.proofs.LuaStoreLater.{later-itself}
use Rattle.lua_state.specs.LuaSlotsSlots as slots
use Rattle.lua_state.specs.LuaSlotsSlots.{Slots, cut_to, cut, newest_function, function_of}
use Rattle.lua_state.specs.LuaSlotsPoints.{Move, Exits, Now}
use Rattle.lua_state.specs.LuaSlotsCalls.{rest_of, left_function}
use Rattle.lua_state.specs.LuaStackDeclaredActivationActivation.{Activation}
use Rattle.lua_state.specs.LuaStackDeclaredFocusFocus.{Focus}
use Rattle.lua_state.specs.LuaStackDeclaredRegisterSlot.{Slot}
use Rattle.lua_state.specs.LuaStackSeen.{Texts, slot_seen, registers_seen, activations_seen, focus_seen}
use Rattle.lua_state.specs.LuaStackOf.{RegistersOf, ActivationsOf, FocusOf}
use Rattle.lua_state.specs.declared.state.State.{State}
use Rattle.lua_state.specs.declared.turn.Turn.{Turn}
use Rattle.lua_state.specs.declared.turn.Turn.TheVariants as turn
use Rattle.lua_state.specs.Seen.{slots_of, frames_of}
use Rattle.lua_state.specs.Of.{StateOf}
use Rattle.lua_state.specs.Makes.{IfSpent, Makes}
use Rattle.lua_state.specs.Charges.{LeavesCall}
use Rattle.lua_state.proofs.Making.{after, from_parts}
use Rattle.lua_loops.proofs.Parts.{on}

-- THE OLDEST of some registers
dropped_of : (s : StoreView) (n : ℕ) (regs : List Slot) → RegistersOf s regs → RegistersOf s (drop n regs)
dropped_of s zero regs h = h
dropped_of s (suc n) [] h = tt
dropped_of s (suc n) (r ∷ regs) h = dropped_of s n regs h.1

pub kept_of : (s : StoreView) (d : ℕ) (old new : List Slot) → new ≡ drop (length old - d) old → RegistersOf s old → RegistersOf s new
kept_of s d old new e h = subst (RegistersOf s) (sym e) (dropped_of s (length old - d) old h)

pub kept_seen : (texts : Texts) (d : ℕ) (old new : List Slot) → new ≡ drop (length old - d) old → registers_seen texts new ≡ cut_to d (registers_seen texts old)
kept_seen texts d old new e =
    ap (registers_seen texts) e ∙ sym (drop-map (slot_seen texts) (length old - d) old)
    ∙ ap (λ (n : ℕ). drop (n - d) (registers_seen texts old)) (sym (length-map old (slot_seen texts)))

-- A STATE with other registers and functions
abbrev pub with_regs : State → List Slot → State
with_regs m regs = record m { regs = regs }

pub with_regs_of : (s : StoreView) (m : State) (regs : List Slot) → StateOf s m → RegistersOf s regs → StateOf s (with_regs m regs)
with_regs_of s m regs h k = record { frames = h.frames; regs = k; functions = h.functions; env = h.env; modules = h.modules; loaded = h.loaded; scenes = h.scenes; codes = h.codes }

abbrev pub without_newest : State → List Slot → List Activation → State
without_newest m regs functions = record m { regs = regs; functions = functions }

pub without_newest_of : (s : StoreView) (m : State) (regs : List Slot) (functions : List Activation) → StateOf s m → RegistersOf s regs → ActivationsOf s functions → StateOf s (without_newest m regs functions)
without_newest_of s m regs functions h a b = record { frames = h.frames; regs = a; functions = b; env = h.env; modules = h.modules; loaded = h.loaded; scenes = h.scenes; codes = h.codes }

-- the slots without the registers above a depth
pub cut_slots : (s : StoreView) (m : State) (regs : List Slot) (d : ℕ) → registers_seen s.texts regs ≡ cut_to d (registers_seen s.texts m.regs) → slots_of s (with_regs m regs) ≡ cut d (slots_of s m)
cut_slots s m regs d e = ap (λ (x : List slots.Slot). let y : Slots = record (slots_of s m) { regs = x } in y) e

-- and without the newest function
pub left_slots : (s : StoreView) (m : State) (regs : List Slot) (functions : List Activation)
    → registers_seen s.texts regs ≡ cut_to (newest_function (activations_seen s m.functions)).base (registers_seen s.texts m.regs) → activations_seen s functions ≡ rest_of (activations_seen s m.functions)
    → slots_of s (without_newest m regs functions) ≡ left_function (slots_of s m)
left_slots s m regs functions e q =
    ap (λ (x : List slots.Slot). let y : Slots = record (slots_of s m) { regs = x; functions = activations_seen s functions } in y) e
    ∙ ap (λ (x : List slots.Activation). let y : Slots = record (slots_of s m) { regs = cut_to (newest_function (activations_seen s m.functions)).base (registers_seen s.texts m.regs); functions = x } in y) q

-- THE REGISTERS ABOVE A DEPTH ARE GONE, and what follows is made from there
pub after_cut : (s t : StoreView) (m m' : State) (regs : List Slot) (d : ℕ) (l l' : Left) (f : Slots → Move) (r : Turn) → registers_seen s.texts regs ≡ cut_to d (registers_seen s.texts m.regs)
    → Makes s (with_regs m regs) l t m' l' (f (slots_of s (with_regs m regs))) r → Makes s m l t m' l' (f (cut d (slots_of s m))) r
after_cut s t m m' regs d l l' f r e made =
    from_parts s t m (with_regs m regs) m' l l' (f (cut d (slots_of s m))) (f (slots_of s (with_regs m regs))) r refl refl refl (ap f (sym (cut_slots s m regs d e))) made

-- THE NEWEST FUNCTION IS GONE, and what follows is made from there
pub after_function : (s t : StoreView) (m m' : State) (regs : List Slot) (functions : List Activation) (l l' : Left) (f : Slots → Move) (r : Turn)
    → registers_seen s.texts regs ≡ cut_to (newest_function (activations_seen s m.functions)).base (registers_seen s.texts m.regs) → activations_seen s functions ≡ rest_of (activations_seen s m.functions)
    → Makes s (without_newest m regs functions) l t m' l' (f (slots_of s (without_newest m regs functions))) r → Makes s m l t m' l' (f (left_function (slots_of s m))) r
after_function s t m m' regs functions l l' f r e q made =
    from_parts s t m (without_newest m regs functions) m' l l' (f (left_function (slots_of s m))) (f (slots_of s (without_newest m regs functions))) r refl refl refl (ap f (sym (left_slots s m regs functions e q))) made

-- A CALL IS LEFT, and what is next is known
if_spent : (A : Type 0) (r : Turn) → A → IfSpent r A
if_spent A (turn.On focus) h = tt
if_spent A (turn.Spent which) h = h

abbrev with_calls : State → ℕ → State
with_calls m n = record m { calls = n }

with_calls_of : (s : StoreView) (m : State) (n : ℕ) → StateOf s m → StateOf s (with_calls m n)
with_calls_of s m n h = record { frames = h.frames; regs = h.regs; functions = h.functions; env = h.env; modules = h.modules; loaded = h.loaded; scenes = h.scenes; codes = h.codes }

left_for : (s : StoreView) (m n : State) (l k : Left) (f : Focus) (i : ℕ) → StateOf s m → FocusOf s f → LeavesCall m l n k → n ≡ with_calls m i
    → Makes s m l s n k (Exits (Now (focus_seen s f (frames_of s m)) (slots_of s m))) (turn.On f)
left_for s m n l k f i of focus leaves same =
    after s s s m n n l k k (Exits (Now (focus_seen s f (frames_of s m)) (slots_of s m))) (Now (focus_seen s f (frames_of s m)) (slots_of s m)) (turn.On f)
    (ap (λ (x : State). x.codes.world) same) (later-itself s) tt (λ told j. leaves (Now (focus_seen s f (frames_of s m)) (slots_of s m)) told j)
    (subst (λ (x : State). Makes s x k s x k (Now (focus_seen s f (frames_of s m)) (slots_of s m)) (turn.On f)) (sym same)
    (on s (with_calls m i) m.frames k f (with_calls_of s m i of) of.frames focus))

pub left_on : (s : StoreView) (m n : State) (l k : Left) (f : Focus) → StateOf s m → FocusOf s f → LeavesCall m l n k → n ≡ with_calls m n.calls
    → Makes s m l s n k (Exits (Now (focus_seen s f (frames_of s m)) (slots_of s m))) (turn.On f)
left_on s m n l k f of focus leaves same = left_for s m n l k f n.calls of focus leaves same
