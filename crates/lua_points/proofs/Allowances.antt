-- A machine takes steps and calls, and leaves all other allowances as they are.
use Rattle.std.proofs.Common.{◌≡◌, ℕ, zero, suc, Option, Some, None, refl, subst}
use Rattle.page_run.specs.WkBaseDeclaredLeftLeft.{Left}
use Rattle.page_run.specs.Perform.{less}
use Rattle.lua_goes.specs.LuaSlotsCode.{CWorld}
use Rattle.lua_goes.specs.LuaSlotsSlots.{Slots}
use Rattle.lua_goes.specs.LuaSlotsPoints.{Point, Move, Costs, Marks, Enters, Exits, Now}
use Rattle.lua_goes.specs.LuaSlotsMoves.{moves}
use Rattle.lua_goes.specs.LuaSlotsEnact.{Funds, all_given_back, Enacted, Stands, Short, paid, calling, called, marked, back, enact}
use Rattle.lua_goes.specs.Going.{Stop, funds_at, Reaches, here, further, Comes, is_over, is_short, is_short_late, is_asking}
use Rattle.lua_points.specs.Laws.{TakesItsOwn, OtherAllowancesStay}

abbrev TakesAt : Left → Enacted → Type 0
TakesAt l (Stands p s g) = TakesItsOwn l g.left
TakesAt l (Short w g) = TakesItsOwn l g.left

paid_takes : (o : Option ℕ) (f : Funds) (go : Funds → Enacted) → ((r : ℕ) → TakesAt f.left (go record f { left = record f.left { steps = r } })) → TakesAt f.left (paid o f go)
paid_takes (Some r) f go h = h r
paid_takes None f go h = refl

calling_takes : (o : Option ℕ) (f : Funds) (go : Funds → Enacted) → ((r : ℕ) → TakesAt f.left (go (called r f))) → TakesAt f.left (calling o f go)
calling_takes (Some r) f go h = h r
calling_takes None f go h = refl

back_takes : (n : ℕ) (f : Funds) (go : Funds → Enacted) → ((g : Funds) → TakesAt g.left (go g)) → TakesAt f.left (go (back n f))
back_takes zero f go h = h f
back_takes (suc n) f go h = same (go (back (suc n) f)) (h (back (suc n) f))
  where
    same : (e : Enacted) → TakesAt (back (suc n) f).left e → TakesAt f.left e
    same (Stands p s g) t = t
    same (Short w g) t = t

-- the same of a move from fewer steps, or calls
steps_same : (f : Funds) (r : ℕ) (e : Enacted) → TakesAt (record f.left { steps = r }) e → TakesAt f.left e
steps_same f r (Stands p s g) t = t
steps_same f r (Short w g) t = t

calls_same : (f : Funds) (r : ℕ) (e : Enacted) → TakesAt (called r f).left e → TakesAt f.left e
calls_same f r (Stands p s g) t = t
calls_same f r (Short w g) t = t

move_takes : (mv : Move) (f : Funds) → TakesAt f.left (enact mv f)
move_takes (Now p s) f = refl
move_takes (Costs n mv) f = paid_takes (less n f.left.steps) f (enact mv) (λ r. steps_same f r (enact mv record f { left = record f.left { steps = r } }) (move_takes mv record f { left = record f.left { steps = r } }))
move_takes (Marks mv) f = move_takes mv (marked f)
move_takes (Enters mv) f = calling_takes (less 1 f.left.calls) f (enact mv) (λ r. calls_same f r (enact mv (called r f)) (move_takes mv (called r f)))
move_takes (Exits mv) f = back_takes f.in_progress f (enact mv) (λ g. move_takes mv g)

further_takes : (l m n : Left) → TakesItsOwn l m → TakesItsOwn m n → TakesItsOwn l n
further_takes l m n e h = subst (λ (x : Left). n ≡ record x { steps = n.steps; calls = n.calls }) e h

module _ (world : CWorld) (p : Point) (s : Slots) (f : Funds) where
  reached_takes : {q : Point} {t : Slots} {g : Funds} → Reaches world p s f q t g → TakesItsOwn f.left g.left
  reached_takes here = refl
  reached_takes (further q t g q' t' g' r e) = further_takes f.left g.left g'.left (reached_takes r) (subst (TakesAt g.left) e (move_takes (moves world q t) g))

  comes_takes : {e : Stop} → Comes world p s f e → TakesItsOwn f.left (funds_at e).left
  comes_takes (is_over o t g r) = further_takes f.left g.left (all_given_back g).left (reached_takes r) refl
  comes_takes (is_short q t g w g' r e) = further_takes f.left g.left g'.left (reached_takes r) (subst (TakesAt g.left) e (move_takes (moves world q t) g))
  comes_takes (is_short_late q t g w g' r e) = further_takes f.left g.left g'.left (reached_takes r) (subst (TakesAt g.left) e (move_takes (moves world q t) g))
  comes_takes (is_asking q fs t g r) = reached_takes r

pub other_allowances_stay : OtherAllowancesStay
other_allowances_stay code point s f e c = comes_takes code point s f c
