-- What is counted up to an event is paid for, and calls are given back.
use Rattle.std.proofs.Common.{◌≡◌, ℕ, zero, suc, ◌+◌, ◌-◌, ◌≤◌, Option, Some, None, refl, subst, arith}
use Rattle.lua_slots.specs.PageRunPerform.{less}
use Rattle.lua_slots.proofs.PageRunLess.{less_some}
use Rattle.lua_slots.specs.Code.{CWorld}
use Rattle.lua_slots.specs.Slots.{Slots}
use Rattle.lua_slots.specs.Points.{Point, Move, Costs, Marks, Enters, Exits, Now}
use Rattle.lua_slots.specs.Moves.{moves}
use Rattle.lua_slots.specs.Enact.{Funds, Enacted, Stands, Short, paid, marked, called, calling, back, enact}
use Rattle.lua_slots.specs.Laws.{IsAhead}
use Rattle.lua_slots.proofs.Paid.{charges_come_first}
use Rattle.lua_goes.specs.Going.{Reaches, here, further, is_over, is_short, is_short_late, is_asking}
use Rattle.lua_goes.specs.Laws.{NodesArePaid, CallsAreBack}

-- NODES AND STEPS of a move that has taken c steps which are not yet marked
abbrev Paid : ℕ → Funds → Funds → Type 0
Paid c f g = (f.tally.nodes ≤ g.tally.nodes) × (g.tally.nodes + g.left.steps ≤ c + (f.tally.nodes + f.left.steps))

abbrev Sum : ℕ → Funds → Enacted → Type 0
Sum c f (Stands q t g) = Paid c f g
Sum c f (Short w g) = Paid c f g

sum-more : (c d : ℕ) (f g : Funds) (e : Enacted) → f.tally.nodes ≤ g.tally.nodes → d + (g.tally.nodes + g.left.steps) ≤ c + (f.tally.nodes + f.left.steps) → Sum d g e → Sum c f e
sum-more c d f g (Stands q t x) n h k = (omega (arith, n, k.0), omega (arith, h, k.1))
sum-more c d f g (Short w x) n h k = (omega (arith, n, k.0), omega (arith, h, k.1))

nodes-back : (n : ℕ) (f : Funds) → ((back n f).tally.nodes ≡ f.tally.nodes) × ((back n f).left.steps ≡ f.left.steps)
nodes-back zero f = (refl, refl)
nodes-back (suc n) f = (refl, refl)

module _ (mv : Move) (c : ℕ) (rest : (d : ℕ) (f : Funds) → IsAhead d mv → Sum d f (enact mv f)) where
  sum-paid : (n : ℕ) (f : Funds) (o : Option ℕ) → less n f.left.steps ≡ o → IsAhead (c + n) mv → Sum c f (paid o f (enact mv))
  sum-paid n f (Some r) q a =
      let g : Funds = record f { left = record f.left { steps = r } } in
      let l = less_some n f.left.steps r q in
      sum-more c (c + n) f g (enact mv g) (omega arith) (omega (arith, l)) (rest (c + n) g a)
  sum-paid n f None q a = (omega arith, omega arith)

  sum-called : (f : Funds) (o : Option ℕ) → IsAhead c mv → Sum c f (calling o f (enact mv))
  sum-called f (Some r) a = sum-more c c f (called r f) (enact mv (called r f)) (omega arith) (omega arith) (rest c (called r f) a)
  sum-called f None a = (omega arith, omega arith)

  sum-marked : (f : Funds) → 1 ≤ c → IsAhead (c - 1) mv → Sum c f (enact mv (marked f))
  sum-marked f l a = sum-more c (c - 1) f (marked f) (enact mv (marked f)) (omega arith) (omega (arith, l)) (rest (c - 1) (marked f) a)

  sum-left : (f : Funds) → IsAhead c mv → Sum c f (enact mv (back f.in_progress f))
  sum-left f a =
      let b = nodes-back f.in_progress f in
      sum-more c c f (back f.in_progress f) (enact mv (back f.in_progress f)) (omega (arith, b.0)) (omega (arith, b.0, b.1)) (rest c (back f.in_progress f) a)

sum-of : (mv : Move) (c : ℕ) (f : Funds) → IsAhead c mv → Sum c f (enact mv f)
sum-of (Now p t) c f a = (omega arith, omega arith)
sum-of (Costs n mv) c f a = sum-paid mv c (λ d g b. sum-of mv d g b) n f (less n f.left.steps) refl a
sum-of (Marks mv) c f a = sum-marked mv c (λ d g b. sum-of mv d g b) f a.0 a.1
sum-of (Enters mv) c f a = sum-called mv c (λ d g b. sum-of mv d g b) f (less 1 f.left.calls) a
sum-of (Exits mv) c f a = sum-left mv c (λ d g b. sum-of mv d g b) f a

-- CALLS of a move
abbrev pub Kept : Funds → Enacted → Type 0
Kept f (Stands q t g) = g.left.calls + g.in_progress ≡ f.left.calls + f.in_progress
Kept f (Short w g) = (g.left.calls ≡ f.left.calls + f.in_progress) × (g.in_progress ≡ 0)

kept-more : (f g : Funds) (e : Enacted) → g.left.calls + g.in_progress ≡ f.left.calls + f.in_progress → Kept g e → Kept f e
kept-more f g (Stands q t x) h k = omega (arith, h, k)
kept-more f g (Short w x) h k = (omega (arith, h, k.0), k.1)

calls-back : (n : ℕ) (f : Funds) → n ≡ f.in_progress → (back n f).left.calls + (back n f).in_progress ≡ f.left.calls + f.in_progress
calls-back zero f e = refl
calls-back (suc n) f e = omega (arith, e)

module _ (mv : Move) (rest : (f : Funds) → Kept f (enact mv f)) where
  kept-paid : (f : Funds) (o : Option ℕ) → Kept f (paid o f (enact mv))
  kept-paid f (Some r) = let g : Funds = record f { left = record f.left { steps = r } } in kept-more f g (enact mv g) refl (rest g)
  kept-paid f None = (refl, refl)

  kept-called : (f : Funds) (o : Option ℕ) → less 1 f.left.calls ≡ o → Kept f (calling o f (enact mv))
  kept-called f (Some r) q = let l = less_some 1 f.left.calls r q in kept-more f (called r f) (enact mv (called r f)) (omega (arith, l)) (rest (called r f))
  kept-called f None q = (refl, refl)

  kept-left : (f : Funds) → Kept f (enact mv (back f.in_progress f))
  kept-left f = kept-more f (back f.in_progress f) (enact mv (back f.in_progress f)) (calls-back f.in_progress f refl) (rest (back f.in_progress f))

pub kept-of : (mv : Move) (f : Funds) → Kept f (enact mv f)
kept-of (Now p t) f = refl
kept-of (Costs n mv) f = kept-paid mv (λ g. kept-of mv g) f (less n f.left.steps)
kept-of (Marks mv) f = kept-more f (marked f) (enact mv (marked f)) refl (kept-of mv (marked f))
kept-of (Enters mv) f = kept-called mv (λ g. kept-of mv g) f (less 1 f.left.calls) refl
kept-of (Exits mv) f = kept-left mv (λ g. kept-of mv g) f

-- UP TO AN EVENT
module _ (world : CWorld) (p : Point) (s : Slots) (f : Funds) where
  sum-met : (q : Point) (t : Slots) (g : Funds) (e : Enacted) → enact (moves world q t) g ≡ e → Paid 0 f g → Sum 0 f e
  sum-met q t g e is k = sum-more 0 0 f g e k.0 (omega (arith, k.1)) (subst (Sum 0 g) is (sum-of (moves world q t) 0 g (charges_come_first world q t)))

  sum-reached : {q : Point} {t : Slots} {g : Funds} → Reaches world p s f q t g → Paid 0 f g
  sum-reached here = (omega arith, omega arith)
  sum-reached (further q t g q' t' g' r e) = sum-met q t g (Stands q' t' g') e (sum-reached r)

  kept-met : (q : Point) (t : Slots) (g : Funds) (e : Enacted) → enact (moves world q t) g ≡ e → g.left.calls + g.in_progress ≡ f.left.calls + f.in_progress → Kept f e
  kept-met q t g e is k = kept-more f g e k (subst (Kept g) is (kept-of (moves world q t) g))

  pub kept-reached : {q : Point} {t : Slots} {g : Funds} → Reaches world p s f q t g → g.left.calls + g.in_progress ≡ f.left.calls + f.in_progress
  kept-reached here = refl
  kept-reached (further q t g q' t' g' r e) = kept-met q t g (Stands q' t' g') e (kept-reached r)

plain-paid : (f g : Funds) → Paid 0 f g → (f.tally.nodes ≤ g.tally.nodes) × (g.tally.nodes + g.left.steps ≤ f.tally.nodes + f.left.steps)
plain-paid f g k = (k.0, omega (arith, k.1))

pub nodes_are_paid : NodesArePaid
nodes_are_paid world p s f _ (is_over o t g r) = plain-paid f g (sum-reached world p s f r)
nodes_are_paid world p s f _ (is_short q t g w g' r e) = plain-paid f g' (sum-met world p s f q t g (Short w g') e (sum-reached world p s f r))
nodes_are_paid world p s f _ (is_short_late q t g w g' r e) = plain-paid f g' (sum-met world p s f q t g (Short w g') e (sum-reached world p s f r))
nodes_are_paid world p s f _ (is_asking q fs t g r) = plain-paid f g (sum-reached world p s f r)

pub calls_are_back : CallsAreBack
calls_are_back world p s f _ (is_over o t g r) = (kept-reached world p s f r, refl)
calls_are_back world p s f _ (is_short q t g w g' r e) = kept-met world p s f q t g (Short w g') e (kept-reached world p s f r)
calls_are_back world p s f _ (is_short_late q t g w g' r e) = kept-met world p s f q t g (Short w g') e (kept-reached world p s f r)
calls_are_back world p s f _ (is_asking q fs t g r) = kept-reached world p s f r
