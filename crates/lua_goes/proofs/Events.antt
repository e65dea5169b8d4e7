-- A machine that goes on comes to an event.
use Rattle.std.proofs.Common.{◌≡◌, ℕ, zero, suc, ◌≤◌, ◌<◌, Bool, true, false, List, [], ◌∷◌, Option, Some, None, refl, sym, ap, subst, arith}
use Rattle.std.specs.Prelude.{nat_le}
use Rattle.std.proofs.lemmas.Bool.{leb-true, leb-false}
use Rattle.lua_slots.specs.MwFrameDeclaredQuestionAsk.{Ask}
use Rattle.lua_slots.specs.PageRunOutcome.{Outcome}
use Rattle.lua_slots.specs.PageRunPerform.{less}
use Rattle.lua_slots.specs.LuaHeapValue.{Value}
use Rattle.lua_slots.specs.LuaMeaningActs.{Jump}
use Rattle.lua_slots.specs.Code.{CWorld}
use Rattle.lua_slots.specs.Slots.{Slots}
use Rattle.lua_slots.specs.Points.{SFrame, Point, Gives, Asking, Move, Costs, Marks, Enters, Exits, Now}
use Rattle.lua_slots.specs.Moves.{moves}
use Rattle.lua_slots.specs.Enact.{Funds, all_given_back, Enacted, Stands, Short, paid, marked, called, calling, back, enact}
use Rattle.lua_slots.proofs.Charges.{charges_are_exact}
use Rattle.lua_goes.specs.Weight.{weight, weight_after}
use Rattle.lua_goes.specs.Going.{Stop, Over, Lacks, Waiting, Reaches, here, further, Comes, is_over, is_short, is_short_late, is_asking}
use Rattle.lua_goes.specs.Laws.{GoesOnFrom, StepsOrWeightFall, ComesToAnEvent}
use Rattle.lua_goes.proofs.Falls.{free_moves_fall}

-- WHERE A MOVE LEADS, and that
abbrev weight_there : Enacted → ℕ
weight_there (Stands p s f) = weight p
weight_there (Short w f) = 0

module _ (mv : Move) (point : Point) (s : Slots) (g : Funds) (rest : (f : Funds) → enact mv f ≡ Stands point s g → weight_after mv ≡ weight point) where
  leads-paid : (o : Option ℕ) (f : Funds) → paid o f (enact mv) ≡ Stands point s g → weight_after mv ≡ weight point
  leads-paid (Some r) f e = rest record f { left = record f.left { steps = r } } e
  leads-paid None f e = cc

  leads-called : (o : Option ℕ) (f : Funds) → calling o f (enact mv) ≡ Stands point s g → weight_after mv ≡ weight point
  leads-called (Some r) f e = rest (called r f) e
  leads-called None f e = cc

leads : (mv : Move) (point : Point) (s : Slots) (f g : Funds) → enact mv f ≡ Stands point s g → weight_after mv ≡ weight point
leads (Now p t) point s f g e = ap weight_there e
leads (Marks mv) point s f g e = leads mv point s (marked f) g e
leads (Exits mv) point s f g e = leads mv point s (back f.in_progress f) g e
leads (Costs n mv) point s f g e = leads-paid mv point s g (λ f' e'. leads mv point s f' g e') (less n f.left.steps) f e
leads (Enters mv) point s f g e = leads-called mv point s g (λ f' e'. leads mv point s f' g e') (less 1 f.left.calls) f e

pub steps_or_weight_fall : StepsOrWeightFall
steps_or_weight_fall world point s f q t g on e =
    let x = charges_are_exact (moves world point s) q t f g e in
    let l = leads (moves world point s) q t f g e in
    (omega (arith, x.0), λ (h : g.left.steps ≡ f.left.steps). let k = free_moves_fall world point s on (omega (arith, x.0, h)) in omega (arith, k, l))

-- ONE MOVE IN FRONT
module _ (world : CWorld) {p : Point} {s : Slots} {f : Funds} {q : Point} {t : Slots} {g : Funds} (e : enact (moves world p s) f ≡ Stands q t g) where
  reach-first : {q' : Point} {t' : Slots} {g' : Funds} → Reaches world q t g q' t' g' → Reaches world p s f q' t' g'
  reach-first here = further p s f q t g here e
  reach-first (further q1 t1 g1 q2 t2 g2 r x) = further q1 t1 g1 q2 t2 g2 (reach-first r) x

  come-first : {stop : Stop} → Comes world q t g stop → Comes world p s f stop
  come-first (is_over o t1 g1 r) = is_over o t1 g1 (reach-first r)
  come-first (is_short q1 t1 g1 w g2 r x) = is_short q1 t1 g1 w g2 (reach-first r) x
  come-first (is_short_late q1 t1 g1 w g2 r x) = is_short_late q1 t1 g1 w g2 (reach-first r) x
  come-first (is_asking q1 fs1 t1 g1 r) = is_asking q1 fs1 t1 g1 (reach-first r)

-- BY STEPS LEFT, and then by weight
abbrev Event_from : CWorld → Point → Slots → Funds → Type 0
Event_from world p s f = (e : Stop) × Comes world p s f e

-- where it leads from each point with fewer steps, or with as many and a lower weight
abbrev From_lower : CWorld → Point → Funds → Type 0
From_lower world p f = (q : Point) (t : Slots) (g : Funds) → g.left.steps ≤ f.left.steps → (g.left.steps ≡ f.left.steps → weight q < weight p) → Event_from world q t g

-- from a point that is neither the end nor a question
enacted : (world : CWorld) (p : Point) (s : Slots) (f : Funds) (e : Enacted) → enact (moves world p s) f ≡ e → GoesOnFrom p → From_lower world p f → Event_from world p s f
enacted world p s f (Short w g) e on go = (Lacks w s.heap g, is_short p s f w g here e)
enacted world p s f (Stands q t g) e on go =
    let k = steps_or_weight_fall world p s f q t g on e in
    let r = go q t g k.0 k.1 in
    (r.0, come-first world e r.1)

-- the end, a question, or any other point
at-end-or : (C : Type 0) (p : Point) → ((o : Outcome (List Value) Jump) → p ≡ Gives o [] → C) → ((q : Ask) (fs : List SFrame) → p ≡ Asking q fs → C) → (GoesOnFrom p → C) → C
at-end-or C (Gives o []) end ask on = end o refl
at-end-or C (Gives o (f ∷ fs)) end ask on = on tt
at-end-or C (Asking q fs) end ask on = ask q fs refl
at-end-or C p end ask on = on tt

one-move : (world : CWorld) (p : Point) (s : Slots) (f : Funds) → From_lower world p f → Event_from world p s f
one-move world p s f go =
    at-end-or (Event_from world p s f) p (λ o e. (Over o s (all_given_back f), subst (λ x. Comes world x s f (Over o s (all_given_back f))) (sym e) (is_over o s f here)))
    (λ q fs e. (Waiting q fs s f, subst (λ x. Comes world x s f (Waiting q fs s f)) (sym e) (is_asking q fs s f here)))
    (λ on. enacted world p s f (enact (moves world p s) f) refl on go)

both-cases : (C : Type 0) (a k : ℕ) → (a < k → C) → (k ≤ a → C) → C
both-cases C a k low high = go (nat_le k a) refl
  where
    go : (b : Bool) → nat_le k a ≡ b → C
    go true e = high (leb-true k a e)
    go false e = low (leb-false k a e)

-- with at most k steps, where fewer lead to an event
by-weight : (world : CWorld) (k : ℕ) → ((q : Point) (t : Slots) (g : Funds) → g.left.steps < k → Event_from world q t g) → (n : ℕ) (p : Point) (s : Slots) (f : Funds) → f.left.steps ≤ k → weight p < n → Event_from world p s f
by-weight world k lower zero p s f h l = absurd (omega (arith, l))
by-weight world k lower (suc n) p s f h l =
    one-move world p s f (λ q t g x y. both-cases (Event_from world q t g) g.left.steps k (lower q t g)
    (λ z. by-weight world k lower n q t g (omega (arith, x, h)) (let w = y (omega (arith, x, h, z)) in omega (arith, w, l))))

by-steps : (world : CWorld) (k : ℕ) (p : Point) (s : Slots) (f : Funds) → f.left.steps < k → Event_from world p s f
by-steps world zero p s f h = absurd (omega (arith, h))
by-steps world (suc k) p s f h = by-weight world k (λ q t g l. by-steps world k q t g l) (suc (weight p)) p s f (omega (arith, h)) (omega arith)

pub comes_to_an_event : ComesToAnEvent
comes_to_an_event world p s f = by-steps world (suc f.left.steps) p s f (omega arith)
