-- Steps that are taken, and answers that are paid for.
use Rattle.std.proofs.Common.{◌≡◌, ◌∙◌, ap, sym, subst, refl, arith, ℕ, ◌+◌, ◌-◌, ◌≤◌, List, Ok, Err}
use Rattle.std.specs.Prelude.{Result}
use Rattle.lua_basic.specs.WkBaseDeclaredLeftLeft.{Left}
use Rattle.lua_basic.specs.LuaHeapProc.{Proc}
use Rattle.lua_basic.specs.LuaHeapHeap.{Heap}
use Rattle.lua_basic.specs.LuaHeapValue as kind
use Rattle.lua_basic.specs.LuaMeaningArguments.{Plain, PlainEnd, Gives, with_charge, costs}
use Rattle.lua_basic.specs.LuaStoreDeclaredValueValue.{Value}
use Rattle.lua_basic.specs.LuaStoreSeen.{StoreView}
use Rattle.lua_basic.specs.declared.stop.Stop.{Stop}
use Rattle.lua_basic.specs.declared.stop.Stop.TheVariants as stop
use Rattle.lua_basic.specs.Seen.{values_seen, less_steps, Covers, IsShort, Paid}
use Rattle.lua_strings.specs.Costs.{Takes, Lacks, TakenOf}

-- ONE PART after another
steps_of : (n : ℕ) (l m : Left) → Takes n l m → m.steps ≡ l.steps - n
steps_of n l m t = ap (λ (x : Left). x.steps) t.1

again : (l m k : Left) (a b : ℕ) → m ≡ less_steps l a → k ≡ less_steps m b → k ≡ less_steps l (a + b)
again l m k a b e f =
    let n : l.steps - a - b ≡ l.steps - (a + b) = omega arith in
    f ∙ ap (λ (x : Left). less_steps x b) e ∙ ap (λ i. let x : Left = record l { steps = i } in x) n

pub takes_then : (a b : ℕ) (l m k : Left) → Takes a l m → Takes b m k → Takes (a + b) l k
takes_then a b l m k t u =
    let s = steps_of a l m t in
    (omega (arith, t.0, u.0, s), again l m k a b t.1 u.1)

pub lacks_then : (a b : ℕ) (l m k : Left) (e : Stop) → Takes a l m → Lacks b m k e → Lacks (a + b) l k e
lacks_then a b l m k stop.Spent t u =
    let s = steps_of a l m t in
    (omega (arith, t.0, u.0, s), u.1 ∙ ap (λ (x : Left). let y : Left = record x { steps = 0 } in y) t.1)
lacks_then a b l m k (stop.Raised v level) t u = absurd u
lacks_then a b l m k stop.NoMemory t u = absurd u

pub lacks_first : (a b : ℕ) (l m : Left) (e : Stop) → Lacks a l m e → Lacks (a + b) l m e
lacks_first a b l m stop.Spent u = (omega (arith, u.0), u.1)
lacks_first a b l m (stop.Raised v level) u = absurd u
lacks_first a b l m stop.NoMemory u = absurd u

-- nothing is taken of a sum, or one part more
pub takes_none : (l : Left) → Takes 0 l l
takes_none l = let e : l.steps ≡ l.steps - 0 = omega arith in (omega arith, ap (λ k. let m : Left = record l { steps = k } in m) e)

pub taken_more : (l m k : Left) (a rest all step : ℕ) → TakenOf all l m a → a ≡ step + rest → Takes step m k → TakenOf all l k rest
taken_more l m k a rest all step (n, t, e) s u = (n + step, takes_then n step l m k t u, omega (arith, e, s))

-- a part of a sum is lacking, so the sum is
lacks_more : (n m : ℕ) (l k : Left) (e : Stop) → n ≤ m → Lacks n l k e → Lacks m l k e
lacks_more n m l k stop.Spent le u = (omega (arith, u.0, le), u.1)
lacks_more n m l k (stop.Raised v level) le u = absurd u
lacks_more n m l k stop.NoMemory le u = absurd u

pub sum_lacks : (l m k : Left) (a rest all step : ℕ) (e : Stop) → TakenOf all l m a → a ≡ step + rest → Lacks step m k e → Lacks all l k e
sum_lacks l m k a rest all step e (n, t, is) s u = lacks_more (n + step) all l k e (omega (arith, is, s)) (lacks_then n step l m k e t u)

pub sum_taken : (l m : Left) (all left : ℕ) → TakenOf all l m left → left ≡ 0 → Takes all l m
sum_taken l m all left (n, t, e) none = let k : n ≡ all = omega (arith, e, none) in subst (λ i. Takes i l m) k t

-- VALUES that were made and paid for
abbrev gift : ℕ → Heap Proc → List kind.Value → Plain Proc
gift n h vs = record { charge = n; heap = h; end = Gives vs }

pub values_paid : (n : ℕ) (s t : StoreView) (l m : Left) (vs : List Value) (ws : List kind.Value) → Takes n l m → t.heap ≡ s.heap → values_seen t.texts vs ≡ ws → Paid (costs n s.heap ws) s l t m (Ok vs)
values_paid n s t l m vs ws took heap is = record {
  covered = took.0;
  answer = ap (λ h. gift n h ws) (sym heap) ∙ ap (gift n t.heap) (sym is);
  rest = took.1;
}

-- or not paid for
pub not_paid : (n : ℕ) (p : Plain Proc) (s : StoreView) (l m : Left) (e : Stop) (r : Result (List Value) Stop) → Lacks n l m e → n ≤ p.charge → r ≡ Err e → Paid p s l s m r
not_paid n p s l m stop.Spent r u le is = subst (Paid p s l s m) (sym is) (record { short = omega (arith, u.0, le); same = refl; rest = u.1 })
not_paid n p s l m (stop.Raised v level) r u le is = absurd u
not_paid n p s l m stop.NoMemory r u le is = absurd u

-- STEPS WERE TAKEN before
charged_covers : (n : ℕ) (p : Plain Proc) (l m k : Left) (t : StoreView) (end : PlainEnd) → Takes n l m → Covers p m t k end → Covers (with_charge n p) l t k end
charged_covers n p l m k t end took c =
    let both = takes_then n p.charge l m k took (c.covered, c.rest) in
    record { covered = both.0; answer = ap (with_charge n) c.answer; rest = both.1 }

charged_short : (n : ℕ) (p : Plain Proc) (s : StoreView) (l m k : Left) (t : StoreView) → Takes n l m → IsShort p s m t k → IsShort (with_charge n p) s l t k
charged_short n p s l m k t took c =
    let both = lacks_then n p.charge l m k stop.Spent took (c.short, c.rest) in
    record { short = both.0; same = c.same; rest = both.1 }

pub charged : (n : ℕ) (p : Plain Proc) (s : StoreView) (l m k : Left) (t : StoreView) (r : Result (List Value) Stop) → Takes n l m → Paid p s m t k r → Paid (with_charge n p) s l t k r
charged n p s l m k t (Ok vs) took c = charged_covers n p l m k t _ took c
charged n p s l m k t (Err (stop.Raised v level)) took c = charged_covers n p l m k t _ took c
charged n p s l m k t (Err stop.Spent) took c = charged_short n p s l m k t took c
charged n p s l m k t (Err stop.NoMemory) took c = tt
