-- STEPS that are taken part by part.
use Rattle.std.proofs.Common.{◌≡◌, ◌∙◌, sym, ap, subst, arith, ℕ, ◌+◌, ◌-◌, ◌<◌, ◌≤◌, ◌⊎◌, inl, inr, Bool, true, false, leb}
use Rattle.std.proofs.lemmas.Bool.Decides.{leb_tells}
use Rattle.page_run.specs.WkBaseDeclaredLeftLeft.{Left}
use Rattle.lua_modules.specs.LuaSlotsPoints.{Move, Costs}
use Rattle.lua_code.specs.LuaSlotsEnact.{Funds, enact}
use Rattle.lua_modules.proofs.LuaStackRaises.{less_steps, pays, spends}
use Rattle.lua_modules.specs.LuaStateSeen.{funds_of}
use Rattle.lua_modules.specs.LuaStateCharges.{Pays}

abbrev less_funds : Funds → ℕ → Funds
less_funds f n = record f { left = less_steps f.left n }

-- two charges are one
charge_by : (a b : ℕ) (mv : Move) (f : Funds) → a ≤ f.left.steps → ((leb (a + b) f.left.steps ≡ true) × (a + b ≤ f.left.steps)) ⊎ ((leb (a + b) f.left.steps ≡ false) × (f.left.steps < a + b))
    → enact (Costs (a + b) mv) f ≡ enact (Costs a (Costs b mv)) f
charge_by a b mv f h (inl e) =
    let le = e.1 in
    let same : f.left.steps - (a + b) ≡ f.left.steps - a - b = omega arith in
    let more : b ≤ f.left.steps - a = omega (arith, le) in
    pays (a + b) mv f le ∙ ap (λ n. let g : Funds = record f { left = record f.left { steps = n } } in enact mv g) same ∙ sym (pays b mv (less_funds f a) more) ∙ sym (pays a (Costs b mv) f h)
charge_by a b mv f h (inr e) =
    let lt = e.1 in
    let more : f.left.steps - a < b = omega (arith, lt, h) in
    spends (a + b) mv f lt ∙ sym (spends b mv (less_funds f a) more) ∙ sym (pays a (Costs b mv) f h)

charges : (a b : ℕ) (mv : Move) (f : Funds) → enact (Costs (a + b) mv) f ≡ enact (Costs a (Costs b mv)) f
charges a b mv f = by_first (leb_tells a f.left.steps)
  where
    by_first : ((leb a f.left.steps ≡ true) × (a ≤ f.left.steps)) ⊎ ((leb a f.left.steps ≡ false) × (f.left.steps < a)) → enact (Costs (a + b) mv) f ≡ enact (Costs a (Costs b mv)) f
    by_first (inl e) = charge_by a b mv f e.1 (leb_tells (a + b) f.left.steps)
    by_first (inr e) = let lt = e.1 in let more : f.left.steps < a + b = omega (arith, lt) in spends (a + b) mv f more ∙ sym (spends a (Costs b mv) f lt)

pays_then : (a b : ℕ) (l k n : Left) (r : Bool) → Pays a l k true → Pays b k n r → Pays (a + b) l n r
pays_then a b l k n true p q = λ m mv told i. charges a b mv (funds_of l m told i) ∙ p m (Costs b mv) told i ∙ q m mv told i
pays_then a b l k n false p q = λ m mv told i. charges a b mv (funds_of l m told i) ∙ p m (Costs b mv) told i ∙ q m mv told i

pays_short : (a b : ℕ) (l k : Left) → Pays a l k false → Pays (a + b) l k false
pays_short a b l k p = λ m mv told i. charges a b mv (funds_of l m told i) ∙ p m (Costs b mv) told i

pays_none : (l : Left) → Pays 0 l l true
pays_none l = λ m mv told i.
    let same : l.steps - 0 ≡ l.steps = omega arith in
    pays 0 mv (funds_of l m told i) (omega arith) ∙ ap (λ n. let k : Left = record l { steps = n } in enact mv (funds_of k m told i)) same

-- SO FAR: whatever is taken of the rest from here is taken of the whole from the start
abbrev pub PaidSoFar : Left → Left → ℕ → ℕ → Type 0
PaidSoFar l m rest all = (k : Left) (b : Bool) → Pays rest m k b → Pays all l k b

pub paid_more : (l m k : Left) (before step rest all : ℕ) → before ≡ step + rest → PaidSoFar l m before all → Pays step m k true → PaidSoFar l k rest all
paid_more l m k before step rest all e so p = λ n b q. so n b (subst (λ x. Pays x m n b) (sym e) (pays_then step rest m k n b p q))

pub paid_short : (l m k : Left) (before step rest all : ℕ) → before ≡ step + rest → PaidSoFar l m before all → Pays step m k false → Pays all l k false
paid_short l m k before step rest all e so p = so k false (subst (λ x. Pays x m k false) (sym e) (pays_short step rest m k p))

pub paid_all : (l m : Left) (before all : ℕ) → before ≡ 0 → PaidSoFar l m before all → Pays all l m true
paid_all l m before all e so = so m true (subst (λ x. Pays x m m true) (sym e) (pays_none m))
