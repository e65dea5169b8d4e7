-- HOW A MOVE IS MADE OF PARTS: of what code did before, and of a move that is made from there.
use Rattle.std.proofs.Common.{◌≡◌, ◌∙◌, refl, sym, ap, arith, ℕ, ◌+◌, inl, inr}
use Rattle.mw_frames.specs.WkBaseDeclaredLeftLeft.{Left}
use Rattle.lua_code.specs.PageRunDeclaredWhichWhich.{Which}
use Rattle.lua_arms.specs.PageRunState.{Tally, no_tally}
use Rattle.mw_frames.specs.LuaStoreSeen.{StoreView}
use Rattle.mw_frames.specs.LuaStoreParts.{IsLater}
use Rattle.mw_frames.proofs.LuaStoreLater.{later-itself, later-then}
use Rattle.lua_goes.specs.LuaSlotsSlots.{Slots, with_heap}
use Rattle.lua_goes.specs.LuaSlotsPoints.{Move, Marks, Now}
use Rattle.lua_code.specs.LuaSlotsEnact.{Funds, all_given_back, Stands, Short, enact}
use Rattle.lua_goes.specs.Going.{led}
use Rattle.lua_arms.specs.LuaStackDeclaredFocusFocus.{Focus}
use Rattle.lua_arms.specs.LuaStackSeen.{focus_seen}
use Rattle.lua_arms.specs.LuaStackOf.{FocusOf}
use Rattle.lua_arms.specs.declared.step.Step.{Step}
use Rattle.lua_arms.specs.declared.step.Step.TheVariants as step
use Rattle.lua_arms.specs.declared.step.Paid.{Paid}
use Rattle.lua_arms.specs.declared.step.Paid.TheVariants as paid
use Rattle.lua_arms.specs.Steps.{step_seen}
use Rattle.lua_arms.specs.Paid.{paid_seen}
use Rattle.lua_state.specs.declared.state.State.{State}
use Rattle.lua_state.specs.declared.turn.Turn.{Turn}
use Rattle.lua_state.specs.declared.turn.Turn.TheVariants as turn
use Rattle.lua_state.specs.Seen.{slots_of, frames_of, funds_of, turn_seen}
use Rattle.lua_state.specs.Of.{StateOf, TurnOf}
use Rattle.lua_state.specs.Makes.{IfSpent, IsStill, Makes, Counts, LateMakes, LateCounts}
use Rattle.lua_state.proofs.Staying.{state_later, frames_stay, slots_stay}

-- what is told and left, of states with the same calls
funds_alike : (l : Left) (m n : State) (told : Tally) (i : ℕ) → n.calls ≡ m.calls → n.height ≡ m.height → funds_of l m told i ≡ funds_of l n told i
funds_alike l m n told i c h = rw (c, h) refl

-- WHERE AN ALLOWANCE IS SPENT
spent_then : {A B C : Type 0} (r : Turn) → (A → B → C) → IfSpent r A → IfSpent r B → IfSpent r C
spent_then (turn.On focus) f a b = tt
spent_then (turn.Spent which) f a b = f a b

-- AFTER PARTS: from s, m, l code went to u, n, k, and the move mv comes to what nv comes to from there; nv is made from there.
-- Where an allowance is spent, the parts had not changed the store's objects.
pub after : (s u t : StoreView) (m n m' : State) (l k l' : Left) (mv nv : Move) (r : Turn) → n.codes.world ≡ m.codes.world → IsLater s u → IfSpent r (u.heap ≡ s.heap)
    → ((told : Tally) (i : ℕ) → enact mv (funds_of l m told i) ≡ enact nv (funds_of k n told i)) → Makes u n k t m' l' nv r → Makes s m l t m' l' mv r
after s u t m n m' l k l' mv nv r w later still e made = record {
  state = made.state;
  world = made.world ∙ w;
  of = made.of;
  later = later-then s u t later made.later;
  still = spent_then r (λ a b. a ∙ b) made.still still;
  makes = λ told i. e told i ∙ made.makes told i;
}

-- the same of a move that counts
pub counts_after : (s u t : StoreView) (m n m' : State) (l k l' : Left) (j j' : ℕ) (mv nv : Move) (r : Turn) → n.codes.world ≡ m.codes.world → IsLater s u → IfSpent r (u.heap ≡ s.heap)
    → ((told : Tally) (i : ℕ) → enact mv (funds_of l m told i) ≡ enact nv (funds_of k n told i)) → Counts u n k j t m' l' j' nv r → Counts s m l j t m' l' j' mv r
counts_after s u t m n m' l k l' j j' mv nv r w later still e made = record {
  state = made.state;
  world = made.world ∙ w;
  of = made.of;
  later = later-then s u t later made.later;
  still = spent_then r (λ a b. a ∙ b) made.still still;
  rises = made.rises;
  makes = λ told i i' q. e told i ∙ made.makes told i i' q;
}

-- Frames, registers and whatever else is no call were changed alone, and the move is one that is made from there.
still_itself : (s : StoreView) (r : Turn) → IfSpent r (s.heap ≡ s.heap)
still_itself s (turn.On focus) = tt
still_itself s (turn.Spent which) = refl

pub from_parts : (s t : StoreView) (m n m' : State) (l l' : Left) (mv nv : Move) (r : Turn) → n.codes.world ≡ m.codes.world → n.calls ≡ m.calls → n.height ≡ m.height
    → mv ≡ nv → Makes s n l t m' l' nv r → Makes s m l t m' l' mv r
from_parts s t m n m' l l' mv nv r w c h e made =
    after s s t m n m' l l l' mv nv r w (later-itself s) (still_itself s r) (λ told i. ap (λ x. enact x (funds_of l m told i)) e ∙ ap (enact nv) (funds_alike l m n told i c h)) made

pub counts_from_parts : (s t : StoreView) (m n m' : State) (l l' : Left) (j j' : ℕ) (mv nv : Move) (r : Turn) → n.codes.world ≡ m.codes.world → n.calls ≡ m.calls → n.height ≡ m.height
    → mv ≡ nv → Counts s n l j t m' l' j' nv r → Counts s m l j t m' l' j' mv r
counts_from_parts s t m n m' l l' j j' mv nv r w c h e made =
    counts_after s s t m n m' l l l' j j' mv nv r w (later-itself s) (still_itself s r) (λ told i. ap (λ x. enact x (funds_of l m told i)) e ∙ ap (enact nv) (funds_alike l m n told i c h)) made

-- THE END OF A MOVE: what is next
pub stands : (s t : StoreView) (m m' : State) (l : Left) (mv : Move) (f : Focus) → StateOf t m' → m'.codes.world ≡ m.codes.world → m'.calls ≡ m.calls → m'.height ≡ m.height → IsLater s t → FocusOf t f
    → mv ≡ Now (focus_seen t f (frames_of t m')) (slots_of t m') → Makes s m l t m' l mv (turn.On f)
stands s t m m' l mv f of w c h later focus e = record {
  state = of;
  world = w;
  of = focus;
  later = later;
  still = tt;
  makes = λ told i. ap (λ x. enact x (funds_of l m told i)) e ∙ ap (λ g. Stands (focus_seen t f (frames_of t m')) (slots_of t m') g) (funds_alike l m m' told i c h);
}

-- or an allowance that is spent
pub spends : (s t : StoreView) (m : State) (l l' : Left) (mv : Move) (which : Which) → StateOf s m → IsLater s t → t.heap ≡ s.heap
    → ((told : Tally) (i : ℕ) → enact mv (funds_of l m told i) ≡ Short which (all_given_back (funds_of l' m told i))) → Makes s m l t m l' mv (turn.Spent which)
spends s t m l l' mv which of later still e = record { state = state_later s t later m of; world = refl; of = tt; later = later; still = still; makes = e }

-- AN ARM THAT ENDS IN A STEP, at a store that grew or changed. Only where it goes on may the store's objects have changed.
abbrev pub IfFails : Step → Type 0 → Type 0
IfFails (step.Fails line f) A = A
IfFails (step.On f) A = Unit {0}

abbrev pub UnlessOn : Paid → Type 0 → Type 0
UnlessOn (paid.Goes st) A = IfFails st A
UnlessOn (paid.Spent which) A = A

paid_still : (A : Type 0) (u t : StoreView) (n m' : State) (k l' : Left) (p : Paid) (r : Turn) → UnlessOn p A
    → paid_seen u p (frames_of u n) (slots_of u n) (funds_of k n no_tally 0) ≡ turn_seen t m' r (funds_of l' m' no_tally 0) → IfSpent r A
paid_still A u t n m' k l' p (turn.On g) h e = tt
paid_still A u t n m' k l' (paid.Goes (step.Fails line f)) (turn.Spent which) h e = h
paid_still A u t n m' k l' (paid.Spent w) (turn.Spent which) h e = h
paid_still A u t n m' k l' (paid.Goes (step.On f)) (turn.Spent which) h e = absurd cc

pub from_step : (s u t : StoreView) (m n m' : State) (l l' : Left) (mv : Move) (st : Step) (r : Turn) → n.codes.world ≡ m.codes.world → n.calls ≡ m.calls → n.height ≡ m.height
    → IsLater s u → IfFails st (u.heap ≡ s.heap) → mv ≡ step_seen u st (frames_of u n) (slots_of u n) → Makes u n l t m' l' (step_seen u st (frames_of u n) (slots_of u n)) r → Makes s m l t m' l' mv r
from_step s u t m n m' l l' mv st r w c h later still e made =
    after s u t m n m' l l l' mv (step_seen u st (frames_of u n) (slots_of u n)) r w later (paid_still (u.heap ≡ s.heap) u t n m' l l' (paid.Goes st) r still (made.makes no_tally 0))
    (λ told i. ap (λ x. enact x (funds_of l m told i)) e ∙ ap (enact (step_seen u st (frames_of u n) (slots_of u n))) (funds_alike l m n told i c h)) made

-- AN ARM WHOSE CHARGES ARE TAKEN, and its end
pub from_paid : (s u t : StoreView) (m n : State) (l k l' : Left) (mv : Move) (p : Paid) (r : Turn) → n.codes.world ≡ m.codes.world
    → IsLater s u → UnlessOn p (u.heap ≡ s.heap) → ((told : Tally) (i : ℕ) → enact mv (funds_of l m told i) ≡ paid_seen u p (frames_of u n) (slots_of u n) (funds_of k n told i))
    → StateOf t n × TurnOf t r → IsLater u t → t.heap ≡ u.heap
    → ((told : Tally) (i : ℕ) → paid_seen u p (frames_of u n) (slots_of u n) (funds_of k n told i) ≡ turn_seen t n r (funds_of l' n told i)) → Makes s m l t n l' mv r
from_paid s u t m n l k l' mv p r w later still e of more same ends = record {
  state = of.0;
  world = w;
  of = of.1;
  later = later-then s u t later more;
  still = paid_still (t.heap ≡ s.heap) u t n n k l' p r (heap_then p same still) (ends no_tally 0);
  makes = λ told i. e told i ∙ ends told i;
}
  where
    heap_then : (q : Paid) → t.heap ≡ u.heap → UnlessOn q (u.heap ≡ s.heap) → UnlessOn q (t.heap ≡ s.heap)
    heap_then (paid.Goes (step.On f)) a b = tt
    heap_then (paid.Goes (step.Fails line f)) a b = a ∙ b
    heap_then (paid.Spent which) a b = a ∙ b

-- The same where the arm speaks of the store from before and of its objects after: the state is the one from before.
pub seen_later : (s u : StoreView) (m : State) (p : Paid) (f : Funds) → StateOf s m → IsLater s u → paid_seen u p (frames_of s m) (with_heap u.heap (slots_of s m)) f ≡ paid_seen u p (frames_of u m) (slots_of u m) f
seen_later s u m p f of later =
    ap (λ fs. paid_seen u p fs (with_heap u.heap (slots_of s m)) f) (sym (frames_stay s u later m of)) ∙ ap (λ (x : Slots). paid_seen u p (frames_of u m) x f) (sym (slots_stay s u later m of))

-- COUNTS: a move without a mark, and one behind a mark, where the counter rose by one more
pub counts_none : (s t : StoreView) (m m' : State) (l l' : Left) (k k' : ℕ) (mv : Move) (r : Turn) → k' ≡ k → Makes s m l t m' l' mv r → Counts s m l k t m' l' k' mv r
counts_none s t m m' l l' k k' mv r q made = record {
  state = made.state;
  world = made.world;
  of = made.of;
  later = made.later;
  still = made.still;
  rises = omega (arith, q);
  makes = λ told n n' e. let same : n ≡ n' = omega (arith, q, e) in made.makes told n ∙ ap (λ i. turn_seen t m' r (funds_of l' m' told i)) same;
}

pub counts_mark : (s t : StoreView) (m m' : State) (l l' : Left) (k j k' : ℕ) (mv : Move) (r : Turn) → j ≡ k + 1 → Counts s m l j t m' l' k' mv r → Counts s m l k t m' l' k' (Marks mv) r
counts_mark s t m m' l l' k j k' mv r q made = record {
  state = made.state;
  world = made.world;
  of = made.of;
  later = made.later;
  still = made.still;
  rises = let up = made.rises in omega (arith, q, up);
  makes = λ told n n' e. made.makes told (n + 1) n' (omega (arith, q, e));
}

-- LATE CHARGES: a move whose store is as it was where an allowance is spent is one of these
still_late : (s t : StoreView) (mv : Move) (r : Turn) → IfSpent r (t.heap ≡ s.heap) → IfSpent r (IsStill s t mv)
still_late s t mv (turn.On focus) e = tt
still_late s t mv (turn.Spent which) e = inl e

pub makes_late : (s t : StoreView) (m m' : State) (l l' : Left) (mv : Move) (r : Turn) → Makes s m l t m' l' mv r → LateMakes s m l t m' l' mv r
makes_late s t m m' l l' mv r made = record { state = made.state; world = made.world; of = made.of; later = made.later; still = still_late s t mv r made.still; makes = made.makes }

pub counts_late : (s t : StoreView) (m m' : State) (l l' : Left) (k k' : ℕ) (mv : Move) (r : Turn) → Counts s m l k t m' l' k' mv r → LateCounts s m l k t m' l' k' mv r
counts_late s t m m' l l' k k' mv r made = record { state = made.state; world = made.world; of = made.of; later = made.later; still = still_late s t mv r made.still; rises = made.rises; makes = made.makes }

-- after parts: these had not changed the store's objects, or the move from there leads to the store's objects as they are where an
-- allowance is spent
still_then : (s u t : StoreView) (mv nv : Move) (r : Turn) → IfSpent r (u.heap ≡ s.heap) → (led mv).heap ≡ (led nv).heap → IfSpent r (IsStill u t nv) → IfSpent r (IsStill s t mv)
still_then s u t mv nv (turn.On focus) b same a = tt
still_then s u t mv nv (turn.Spent which) b same (inl e) = inl (e ∙ b)
still_then s u t mv nv (turn.Spent which) b same (inr e) = inr (e ∙ sym same)

pub late_after : (s u t : StoreView) (m n m' : State) (l k l' : Left) (mv nv : Move) (r : Turn) → n.codes.world ≡ m.codes.world → IsLater s u → IfSpent r (u.heap ≡ s.heap) → (led mv).heap ≡ (led nv).heap
    → ((told : Tally) (i : ℕ) → enact mv (funds_of l m told i) ≡ enact nv (funds_of k n told i)) → LateMakes u n k t m' l' nv r → LateMakes s m l t m' l' mv r
late_after s u t m n m' l k l' mv nv r w later still same e made = record {
  state = made.state;
  world = made.world ∙ w;
  of = made.of;
  later = later-then s u t later made.later;
  still = still_then s u t mv nv r still same made.still;
  makes = λ told i. e told i ∙ made.makes told i;
}

-- parts that changed the store's objects to those to which the move leads
changed_then : (s u t : StoreView) (mv : Move) (r : Turn) → u.heap ≡ (led mv).heap → IfSpent r (t.heap ≡ u.heap) → IfSpent r (IsStill s t mv)
changed_then s u t mv (turn.On focus) same e = tt
changed_then s u t mv (turn.Spent which) same e = inr (e ∙ same)

pub late_changed : (s u t : StoreView) (m n m' : State) (l k l' : Left) (mv nv : Move) (r : Turn) → n.codes.world ≡ m.codes.world → IsLater s u → u.heap ≡ (led mv).heap
    → ((told : Tally) (i : ℕ) → enact mv (funds_of l m told i) ≡ enact nv (funds_of k n told i)) → Makes u n k t m' l' nv r → LateMakes s m l t m' l' mv r
late_changed s u t m n m' l k l' mv nv r w later same e made = record {
  state = made.state;
  world = made.world ∙ w;
  of = made.of;
  later = later-then s u t later made.later;
  still = changed_then s u t mv r same made.still;
  makes = λ told i. e told i ∙ made.makes told i;
}

pub late_counts_none : (s t : StoreView) (m m' : State) (l l' : Left) (k k' : ℕ) (mv : Move) (r : Turn) → k' ≡ k → LateMakes s m l t m' l' mv r → LateCounts s m l k t m' l' k' mv r
late_counts_none s t m m' l l' k k' mv r q made = record {
  state = made.state;
  world = made.world;
  of = made.of;
  later = made.later;
  still = made.still;
  rises = omega (arith, q);
  makes = λ told n n' e. let same : n ≡ n' = omega (arith, q, e) in made.makes told n ∙ ap (λ i. turn_seen t m' r (funds_of l' m' told i)) same;
}

pub late_counts_mark : (s t : StoreView) (m m' : State) (l l' : Left) (k j k' : ℕ) (mv : Move) (r : Turn) → j ≡ k + 1 → LateCounts s m l j t m' l' k' mv r → LateCounts s m l k t m' l' k' (Marks mv) r
late_counts_mark s t m m' l l' k j k' mv r q made = record {
  state = made.state;
  world = made.world;
  of = made.of;
  later = made.later;
  still = made.still;
  rises = let up = made.rises in omega (arith, q, up);
  makes = λ told n n' e. made.makes told (n + 1) n' (omega (arith, q, e));
}
