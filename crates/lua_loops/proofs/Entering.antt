-- A function of Lua is entered.
use Rattle.std.proofs.Common.{◌≡◌, ◌∙◌, refl, sym, ap, subst, ℕ, zero, suc, ◌+◌, Bool, true, false, List, [], ◌∷◌, length, drop, Option, Some, None, arith}
use Rattle.std.specs.Prelude.{if◌then◌else◌}
use Rattle.std.proofs.lemmas.List.{drop-map, length-map}
use Rattle.page_run.specs.WkBaseDeclaredLeftLeft.{Left}
use Rattle.page_run.specs.declared.which.Which.TheVariants.{Calls}
use Rattle.lua_state.specs.LuaStoreDeclaredValueValue.{Value}
use Rattle.lua_state.specs.LuaStoreDeclaredIdsClosureId.{ClosureId}
use Rattle.lua_state.specs.LuaStoreSeen.{StoreView, seen}
use Rattle.lua_state.specs.LuaStoreParts.{IsLater}
use Rattle.lua_state.proofs.LuaStoreLater.{later-itself, text_of-later}
use Rattle.lua_code.specs.LuaSlotsCode.{CProto}
use Rattle.lua_state.specs.LuaSlotsSlots as slots
use Rattle.lua_state.specs.LuaSlotsSlots.{Slots, with_all}
use Rattle.lua_state.specs.LuaSlotsPoints.{SFrame, Move, Marks, Enters}
use Rattle.lua_state.specs.LuaSlotsCalls.{activation, slots_in_body}
use Rattle.lua_state.specs.LuaSlotsEnact.{enact}
use Rattle.lua_state.specs.LuaStackDeclaredActivationActivation.{Activation}
use Rattle.lua_state.specs.LuaStackDeclaredActivationCallee.{Callee}
use Rattle.lua_state.specs.LuaStackDeclaredFrameFrame.{Frame}
use Rattle.lua_state.specs.LuaStackDeclaredRegisterSlot.{Slot}
use Rattle.lua_state.specs.LuaStackSeen.{Texts, slot_seen, values_seen, registers_seen, callee_seen, activation_seen, activations_seen}
use Rattle.lua_state.specs.LuaStackOf.{ValuesOf, CalleeOf, ActivationOf, ActivationsOf, MayBeClosureOf}
use Rattle.lua_state.proofs.LuaStackStay.{values_later, captured_stay, activations_later, activations_as}
use Rattle.lua_state.specs.declared.codes.Codes.{Codes}
use Rattle.lua_state.specs.declared.state.State.{State}
use Rattle.lua_state.specs.declared.turn.Turn.{Turn}
use Rattle.lua_state.specs.declared.turn.Turn.TheVariants as turn
use Rattle.lua_state.specs.Seen.{slots_of, frames_of, funds_of, turn_seen}
use Rattle.lua_state.specs.Of.{StateOf}
use Rattle.lua_state.specs.Makes.{IfSpent, Makes, Counts}
use Rattle.lua_state.specs.Charges.{EntersCall}
use Rattle.lua_state.specs.Worlds.{CodesOf}
use Rattle.lua_state.proofs.Making.{counts_after, counts_mark, counts_none, counts_from_parts}
use Rattle.lua_loops.proofs.Beginning.{with_parts, opened_slots}

-- THE ARGUMENTS BEHIND the parameters, where the function has `...`
abbrev pub dots_at : Bool → ℕ → List Value → List Value
dots_at b n vs = if b then drop n vs else []

dropped_of : (s : StoreView) (n : ℕ) (vs : List Value) → ValuesOf s vs → ValuesOf s (drop n vs)
dropped_of s zero vs h = h
dropped_of s (suc n) [] h = tt
dropped_of s (suc n) (v ∷ vs) h = dropped_of s n vs h.1

pub dots_of : (s : StoreView) (b : Bool) (n : ℕ) (vs : List Value) → ValuesOf s vs → ValuesOf s (dots_at b n vs)
dots_of s true n vs h = dropped_of s n vs h
dots_of s false n vs h = tt

pub dots_seen : (texts : Texts) (b : Bool) (n : ℕ) (vs : List Value) → values_seen texts (dots_at b n vs) ≡ (if b then drop n (values_seen texts vs) else [])
dots_seen texts true n vs = sym (drop-map (seen texts) n vs)
dots_seen texts false n vs = refl

-- A FUNCTION IN PROGRESS
abbrev pub entered : Callee → Bool → ℕ → List Value → Option ℕ → List Slot → ℕ → Activation
entered f b n args line regs reach = record { source = f.source; closure = f.closure; dots = dots_at b n args; called_at = line; base = length regs; reach = reach }

pub opened_functions : (f : Callee) (b : Bool) (n : ℕ) (args behind dots : List Value) (line : Option ℕ) (regs : List Slot) (base reach : ℕ) (old new : List Activation) → base ≡ length regs → behind ≡ drop n args → dots ≡ (if b then behind else [])
    → new ≡ (let a : Activation = record { source = f.source; closure = f.closure; dots = dots; called_at = line; base = base; reach = reach } in a) ∷ old → new ≡ entered f b n args line regs reach ∷ old
opened_functions f b n args behind dots line regs base reach old new p q d e =
    e ∙ ap (λ (vs : List Value). (let a : Activation = record { source = f.source; closure = f.closure; dots = vs; called_at = line; base = base; reach = reach } in a) ∷ old) (d ∙ ap (λ (vs : List Value). if b then vs else []) q)
    ∙ ap (λ (k : ℕ). (let a : Activation = record { source = f.source; closure = f.closure; dots = dots_at b n args; called_at = line; base = k; reach = reach } in a) ∷ old) p

module _ (s u : StoreView) (m : State) (f : Callee) (p : CProto) (args : List Value) (line : Option ℕ) (reach : ℕ) (of : StateOf s m) (callee : CalleeOf s f) (values : ValuesOf s args) (later : IsLater s u) (texts : u.texts ≡ s.texts) where
  abbrev newest : Activation
  newest = entered f p.dots (length p.flags) args line m.regs reach

  newest_of : ActivationOf u newest
  newest_of = record {
    source = text_of-later s u later f.source callee.source;
    closure = closure_of f.closure callee.closure;
    dots = dots_of u p.dots (length p.flags) args (values_later s u later args values);
  }
    where
      closure_of : (c : Option ClosureId) → MayBeClosureOf s c → MayBeClosureOf u c
      closure_of None h = tt
      closure_of (Some id) h = omega (arith, h, later.closures)

  newest_seen : activation_seen u newest ≡ activation (callee_seen s f) p (values_seen s.texts args) line (slots_of s m)
  newest_seen =
      rw (captured_stay s u later f.closure callee.closure, texts, dots_seen s.texts p.dots (length p.flags) args, length-map m.regs (slot_seen s.texts)) refl

  pub functions_of : (functions : List Activation) → functions ≡ newest ∷ m.functions → ActivationsOf u functions
  functions_of functions e = subst (ActivationsOf u) (sym e) (newest_of, activations_later s u later m.functions of.functions)

  pub functions_seen : (functions : List Activation) → functions ≡ newest ∷ m.functions
      → activations_seen u functions ≡ activation (callee_seen s f) p (values_seen s.texts args) line (slots_of s m) ∷ activations_seen s m.functions
  functions_seen functions e =
      ap (activations_seen u) e
      ∙ ap (λ (a : slots.Activation). a ∷ activations_seen u m.functions) newest_seen
      ∙ ap (λ (fs : List slots.Activation). activation (callee_seen s f) p (values_seen s.texts args) line (slots_of s m) ∷ fs) (activations_as s u later m.functions of.functions)

  pub body_slots : (frames : List Frame) (regs : List Slot) (functions : List Activation) → functions ≡ newest ∷ m.functions
      → (u.heap, registers_seen u.texts regs) ≡ with_all p.flags (values_seen s.texts args) (s.heap, registers_seen s.texts m.regs)
      → slots_of u (with_parts m frames regs functions) ≡ slots_in_body (callee_seen s f) p (values_seen s.texts args) line (slots_of s m)
  body_slots frames regs functions e o = opened_slots s u m frames regs functions _ _ of later o (functions_seen functions e)

-- A CALL IS ENTERED: the state is the one from before but for the count of calls
abbrev pub with_calls : State → ℕ → ℕ → State
with_calls m n h = record m { calls = n; height = h }

with_calls_of : (s : StoreView) (m : State) (n h : ℕ) → StateOf s m → StateOf s (with_calls m n h)
with_calls_of s m n h of = record { frames = of.frames; regs = of.regs; functions = of.functions; env = of.env; modules = of.modules; loaded = of.loaded; scenes = of.scenes; codes = of.codes }

pub called_of : (s : StoreView) (m n : State) → n ≡ with_calls m n.calls n.height → StateOf s m → StateOf s n
called_of s m n e of = subst (StateOf s) (sym e) (with_calls_of s m n.calls n.height of)

if_spent : (A : Type 0) (r : Turn) → A → IfSpent r A
if_spent A (turn.On focus) h = tt
if_spent A (turn.Spent which) h = h

-- a move over slots that the count of calls does not change
pub enters : (s t : StoreView) (m n m' : State) (l k : Left) (j i : ℕ) (f : List SFrame → Slots → Move) (r : Turn) → n ≡ with_calls m n.calls n.height → EntersCall m l n k true → i ≡ j + 1
    → Makes s n k t m' k (f (frames_of s n) (slots_of s n)) r → Counts s m l j t m' k i (Enters (Marks (f (frames_of s m) (slots_of s m)))) r
enters s t m n m' l k j i f r same pays more made =
    counts_after s s t m n m' l k k j i (Enters (Marks (f (frames_of s m) (slots_of s m)))) (Marks (f (frames_of s n) (slots_of s n))) r
    (ap (λ (x : State). x.codes.world) same) (later-itself s) (if_spent (s.heap ≡ s.heap) r refl)
    (λ told q. pays (Marks (f (frames_of s m) (slots_of s m))) told q
    ∙ ap (λ (x : State). enact (Marks (f (frames_of s x) (slots_of s x))) (funds_of k n told q)) (sym same))
    (counts_mark s t n m' k k j i i (f (frames_of s n) (slots_of s n)) r more (counts_none s t n m' k k i i (f (frames_of s n) (slots_of s n)) r refl made))

pub no_call : (s : StoreView) (m n : State) (l k : Left) (j : ℕ) (mv : Move) → n ≡ with_calls m n.calls n.height → StateOf s m → EntersCall m l n k false → Counts s m l j s n k j (Enters mv) (turn.Spent Calls)
no_call s m n l k j mv same of pays = record {
  state = called_of s m n same of;
  world = ap (λ (x : State). x.codes.world) same;
  of = tt;
  later = later-itself s;
  still = refl;
  rises = omega arith;
  makes = λ told i i' q. let e : i ≡ i' = omega (arith, q) in pays mv told i ∙ ap (λ (x : ℕ). turn_seen s n (turn.Spent Calls) (funds_of k n told x)) e;
}

-- THE CODE of a module was looked up
abbrev pub with_codes : State → Codes → State
with_codes m c = record m { codes = c }

pub with_codes_of : (s : StoreView) (m : State) (c : Codes) → StateOf s m → CodesOf s c → StateOf s (with_codes m c)
with_codes_of s m c h k = record { frames = h.frames; regs = h.regs; functions = h.functions; env = h.env; modules = h.modules; loaded = h.loaded; scenes = h.scenes; codes = k }

pub found : (s t : StoreView) (m m' : State) (c : Codes) (l l' : Left) (j j' : ℕ) (mv nv : Move) (r : Turn) → c.world ≡ m.codes.world → mv ≡ nv
    → Counts s (with_codes m c) l j t m' l' j' nv r → Counts s m l j t m' l' j' mv r
found s t m m' c l l' j j' mv nv r w e made = counts_from_parts s t m (with_codes m c) m' l l' j j' mv nv r w refl refl e made
