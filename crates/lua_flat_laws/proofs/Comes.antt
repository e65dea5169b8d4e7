-- What follows comes there too, with what is left of the allowances.
use Rattle.std.proofs.Common.{◌≡◌, ℕ, ◌+◌, ◌-◌, ◌<◌, ◌∙◌, Bool, true, false, Option, Some, None, refl, sym, ap, subst, arith}
use Rattle.lua_goes.specs.PageRunDeclaredWhichWhich.{Which}
use Rattle.lua_flat.specs.PageRunDeclaredWhichWhichTheVariants.{Steps}
use Rattle.std.specs.Prelude.{nat_le}
use Rattle.lua_flat.specs.PageRunPerform.{less_if, less}
use Rattle.lua_goes.proofs.PageRunLess.{less_of, less_some, less_over}
use Rattle.lua_goes.specs.LuaSlotsCode.{CWorld}
use Rattle.lua_goes.specs.LuaSlotsSlots.{Slots}
use Rattle.lua_goes.specs.LuaSlotsPoints.{Point, Move, Marks}
use Rattle.lua_goes.specs.LuaSlotsMoves.{moves}
use Rattle.lua_goes.specs.LuaSlotsEnact.{Funds, Enacted, Stands, Short, all_given_back, paid, marked, called, calling, back, enact}
use Rattle.lua_goes.specs.Going.{Reaches, here, further}
use Rattle.lua_flat.specs.Operations.{Codes}
use Rattle.lua_flat.specs.Flat.{Flat, FlatMove}
use Rattle.lua_flat.specs.Moves.{FlatEnacted, FStands, FShort, after_nodes, nodes_paid, flat_paid, flat_calling, flat_enact}
use Rattle.lua_flat.specs.Stands.{StandsFor}
use Rattle.lua_flat_laws.specs.Follows.{Follows, follow_costs, follow_marks, follow_enters, follow_exits, follow_none, follow_node, follow_free, follow_stands}
use Rattle.lua_flat_laws.specs.Laws.{Reached, Spent, WhatFollowsComes}

module _ (world : CWorld) (codes : Codes) where
  -- WHAT A MOVE COMES TO, and the moves behind it: where a flat machine stands, and where an allowance is spent
  data Ends (e : Enacted) : FlatEnacted → Type 0 where
    ends_at : {to : Flat} {g : Funds} (p q : Point) (s t : Slots) (f : Funds) → e ≡ Stands p s f → Reaches world p s f q t g → StandsFor world codes to q t → Ends e (FStands to g)
    spent_at_once : {which : Which} {g : Funds} → e ≡ Short which g → Ends e (FShort which g)
    spent_later : {which : Which} {g : Funds} (p q : Point) (s t : Slots) (f h : Funds) → e ≡ Stands p s f → Reaches world p s f q t h → enact (moves world q t) h ≡ Short which g → Ends e (FShort which g)

  reach_then : {p : Point} {s : Slots} {f : Funds} {q : Point} {t : Slots} {g : Funds} {q' : Point} {t' : Slots} {g' : Funds} → Reaches world p s f q t g → Reaches world q t g q' t' g' → Reaches world p s f q' t' g'
  reach_then r here = r
  reach_then r (further q t g q' t' g' x e) = further q t g q' t' g' (reach_then r x) e

  -- a free move in front
  free_first : (q : Point) (t : Slots) (f : Funds) (e : FlatEnacted) → Ends (enact (moves world q t) f) e → Ends (Stands q t f) e
  free_first q t f e (ends_at p q' s t' g is r st) = ends_at q q' t t' f refl (reach_then (further q t f p s g here is) r) st
  free_first q t f e (spent_at_once is) = spent_later q q t t f f refl here is
  free_first q t f e (spent_later p q' s t' g h is r sh) = spent_later q q' t t' f h refl (reach_then (further q t f p s g here is) r) sh

  costs_by : (m : FlatMove) (mv : Move) (f : Funds) (o : Option ℕ) → ((g : Funds) → Ends (enact mv g) (flat_enact m g)) → Ends (paid o f (enact mv)) (flat_paid o f (flat_enact m))
  costs_by m mv f (Some rest) k = k record f { left = record f.left { steps = rest } }
  costs_by m mv f None k = spent_at_once refl

  enters_by : (m : FlatMove) (mv : Move) (f : Funds) (o : Option ℕ) → ((g : Funds) → Ends (enact mv g) (flat_enact m g)) → Ends (calling o f (enact mv)) (flat_calling o f (flat_enact m))
  enters_by m mv f (Some rest) k = k (called rest f)
  enters_by m mv f None k = spent_at_once refl

  -- NODES: none; and one, and those behind it
  after_none : (f : Funds) (rest : ℕ) → rest ≡ f.left.steps → after_nodes 0 rest f ≡ f
  after_none f rest e = ap (λ (n : ℕ). record f { left = record f.left { steps = n }; tally = record f.tally { nodes = f.tally.nodes + 0 } }) e ∙ ap (λ (n : ℕ). record f { tally = record f.tally { nodes = n } }) (omega arith)

  none_by : (m : FlatMove) (mv : Move) (f : Funds) → Ends (enact mv f) (flat_enact m f) → Ends (enact mv f) (nodes_paid 0 (less 0 f.left.steps) f (flat_enact m))
  none_by m mv f k =
      let e : less 0 f.left.steps ≡ Some (f.left.steps - 0) = less_of 0 f.left.steps (omega arith) in
      subst (λ (o : Option ℕ). Ends (enact mv f) (nodes_paid 0 o f (flat_enact m))) (sym e)
      (subst (λ (g : Funds). Ends (enact mv f) (flat_enact m g)) (sym (after_none f (f.left.steps - 0) (omega arith))) k)

  less_if_none : (b : Bool) (n l : ℕ) → nat_le n l ≡ b → less_if b n l ≡ None → l < n
  less_if_none true n l e i = absurd cc
  less_if_none false n l e i = grind arith

  less_none : (n l : ℕ) → less n l ≡ None → l < n
  less_none n l e = less_if_none (nat_le n l) n l refl e

  -- the same is paid
  same_paid : (n r : ℕ) (m : FlatMove) (f : Funds) (o : Option ℕ) → r + 1 ≡ f.left.steps → less n r ≡ o
      → nodes_paid n o (marked (record f { left = record f.left { steps = r } })) (flat_enact m) ≡ nodes_paid (n + 1) (less (n + 1) f.left.steps) f (flat_enact m)
  same_paid n r m f (Some q) h e =
      let l : q + n ≡ r = less_some n r q e in
      let k : f.left.steps - (n + 1) ≡ q = omega (arith, h, l) in
      let w : less (n + 1) f.left.steps ≡ Some q = less_of (n + 1) f.left.steps (omega (arith, h, l)) ∙ ap (λ (x : ℕ). Some x) k in
      ap (λ (x : ℕ). flat_enact m (record f { left = record f.left { steps = q }; tally = record f.tally { nodes = x } })) (omega arith) ∙ ap (λ (o : Option ℕ). nodes_paid (n + 1) o f (flat_enact m)) (sym w)
  same_paid n r m f None h e =
      let l : r < n = less_none n r e in
      let w : less (n + 1) f.left.steps ≡ None = less_over (n + 1) f.left.steps (omega (arith, h, l)) in
      ap (λ (x : ℕ). FShort Steps (all_given_back (record f { left = record f.left { steps = 0 }; tally = record f.tally { nodes = x } }))) (omega (arith, h)) ∙ ap (λ (o : Option ℕ). nodes_paid (n + 1) o f (flat_enact m)) (sym w)

  one_more_by : (n : ℕ) (m : FlatMove) (mv : Move) (f : Funds) (o : Option ℕ) → less 1 f.left.steps ≡ o
      → ((g : Funds) → Ends (enact mv g) (nodes_paid n (less n g.left.steps) g (flat_enact m))) → Ends (paid o f (enact (Marks mv))) (nodes_paid (n + 1) (less (n + 1) f.left.steps) f (flat_enact m))
  one_more_by n m mv f (Some r) e k =
      let g : Funds = marked (record f { left = record f.left { steps = r } }) in
      subst (λ (x : FlatEnacted). Ends (enact mv g) x) (same_paid n r m f (less n r) (less_some 1 f.left.steps r e) refl) (k g)
  one_more_by n m mv f None e k =
      let l : f.left.steps < 1 = less_none 1 f.left.steps e in
      let w : less (n + 1) f.left.steps ≡ None = less_over (n + 1) f.left.steps (omega (arith, l)) in
      subst (λ (o : Option ℕ). Ends (paid None f (enact (Marks mv))) (nodes_paid (n + 1) o f (flat_enact m))) (sym w)
      (spent_at_once (ap (λ (x : ℕ). Short Steps (all_given_back (record f { left = record f.left { steps = 0 }; tally = record f.tally { nodes = x } }))) (omega (arith, l))))

  ends : {m : FlatMove} {mv : Move} → Follows world codes m mv → (f : Funds) → Ends (enact mv f) (flat_enact m f)
  ends (follow_costs {n} {m} {mv} h) f = costs_by m mv f (less n f.left.steps) (λ g. ends h g)
  ends (follow_marks h) f = ends h (marked f)
  ends (follow_enters {m} {mv} h) f = enters_by m mv f (less 1 f.left.calls) (λ g. ends h g)
  ends (follow_exits h) f = ends h (back f.in_progress f)
  ends (follow_none {m} {mv} h) f = none_by m mv f (ends h f)
  ends (follow_node {n} {m} {mv} h) f = one_more_by n m mv f (less 1 f.left.steps) refl (λ g. ends h g)
  ends (follow_free {m} q t h) f = free_first q t f (flat_enact m f) (ends h f)
  ends (follow_stands {q} {t} st) f = ends_at q q t t f refl here st

  -- from where it stands
  abbrev From : Enacted → Point → Slots → Funds → Type 0
  From (Stands p s f) q t g = Reaches world p s f q t g
  From (Short which f) q t g = Unit {0}

  module _ (p : Point) (s : Slots) (f : Funds) where
    on_ends : (to : Flat) (g : Funds) → Ends (Stands p s f) (FStands to g) → Reached world codes p s f to g
    on_ends to g (ends_at p' q s' t h is r st) = record { point = q; slots = t; reaches = subst (λ (e : Enacted). From e q t g) (sym is) r; stands = st }

    short_ends : (which : Which) (g : Funds) → Ends (Stands p s f) (FShort which g) → Spent world p s f which g
    short_ends which g (spent_at_once is) = absurd cc
    short_ends which g (spent_later p' q s' t h h' is r sh) = record { point = q; slots = t; funds = h'; reaches = subst (λ (e : Enacted). From e q t h') (sym is) r; short = sh }

pub what_follows_comes : WhatFollowsComes
what_follows_comes world codes m p s f h =
    let e : Ends world codes (Stands p s f) (flat_enact m f) = ends world codes h f in
    record {
      on = λ to g is. on_ends world codes p s f to g (subst (λ (x : FlatEnacted). Ends world codes (Stands p s f) x) is e);
      short = λ which g is. short_ends world codes p s f which g (subst (λ (x : FlatEnacted). Ends world codes (Stands p s f) x) is e);
    }
