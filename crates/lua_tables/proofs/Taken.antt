-- Charges that are taken part by part, and answers that were paid for.
use Rattle.std.proofs.Common.{◌≡◌, ◌∙◌, ap, sym, subst, refl, ℕ, ◌+◌, ◌-◌, ◌≤◌, List, Ok, Err, arith}
use Rattle.std.specs.Prelude.{Result}
use Rattle.lua_number.specs.WkBaseDeclaredLeftLeft.{Left}
use Rattle.lua_basic.specs.LuaHeapProc.{Proc}
use Rattle.lua_basic.specs.LuaMeaningArguments.{Plain, PlainEnd, Gives, with_charge}
use Rattle.lua_basic.specs.LuaStoreDeclaredValueValue.{Value}
use Rattle.lua_basic.specs.LuaStoreSeen.{StoreView}
use Rattle.lua_basic.specs.declared.stop.Stop.{Stop}
use Rattle.lua_basic.specs.declared.stop.Stop.TheVariants as stop
use Rattle.lua_basic.specs.Seen.{values_seen, ends, less_steps, Covers, Paid}
use Rattle.lua_tables.specs.Paying.{IsTaken, Takes}

-- the same allowances with so many steps
abbrev pub with_steps : Left → ℕ → Left
with_steps l n = record l { steps = n }

steps_of : (l m : Left) (n : ℕ) → m ≡ with_steps l n → m.steps ≡ n
steps_of l m n e = ap (λ (x : Left). x.steps) e

-- what changes the steps twice changes them once
pub again : (l k m : Left) (a b : ℕ) → k ≡ with_steps l a → m ≡ with_steps k b → m ≡ with_steps l b
again l k m a b e f = f ∙ ap (λ (x : Left). with_steps x b) e

-- ONE CHARGE AFTER ANOTHER
pub taken-both : (a b : ℕ) (l k m : Left) → IsTaken a l k → IsTaken b k m → IsTaken (a + b) l m
taken-both a b l k m t u =
    let rest = steps_of l k (l.steps - a) t.rest in
    let le = t.covered in
    let more = u.covered in
    let sum : k.steps - b ≡ l.steps - (a + b) = omega (arith, rest, le, more) in
    record { covered = omega (arith, rest, le, more); rest = again l k m _ _ t.rest u.rest ∙ ap (with_steps l) sum }

pub both : {B : Type 0} (a b : ℕ) (l k m : Left) (r : Result B Stop) → IsTaken a l k → Takes b k m r → Takes (a + b) l m r
both a b l k m (Ok x) t u = taken-both a b l k m t u
both a b l k m (Err (stop.Raised v level)) t u = absurd u
both a b l k m (Err stop.Spent) t u =
    let rest = steps_of l k (l.steps - a) t.rest in
    let le = t.covered in
    let less = u.short in
    record { short = omega (arith, rest, le, less); rest = again l k m _ _ t.rest u.rest }
both a b l k m (Err stop.NoMemory) t u = tt

-- the first one was not covered
pub first_short : {B : Type 0} (a b : ℕ) (l m : Left) (e : Stop) (r : Result B Stop) → Takes {A = Unit {0}} a l m (Err e) → r ≡ Err e → Takes (a + b) l m r
first_short {B} a b l m e r t is = subst (Takes (a + b) l m) (sym is) (go e t)
  where
    go : (e : Stop) → Takes {A = Unit {0}} a l m (Err e) → Takes {A = B} (a + b) l m (Err e)
    go (stop.Raised v level) t = absurd t
    go stop.Spent t = let less = t.short in record { short = omega (arith, less); rest = t.rest }
    go stop.NoMemory t = tt

-- OF A SUM all but the rest has been taken, and it was covered
pub record Paying (total rest : ℕ) (l m : Left) : Type 0 where
  pub sum : m.steps + total ≡ l.steps + rest
  pub only : m ≡ with_steps l m.steps

pub paying-on : (a b total rest : ℕ) (l k m : Left) → rest ≡ a + b → Paying total rest l k → IsTaken a k m → Paying total b l m
paying-on a b total rest l k m e p t =
    let now = steps_of k m (k.steps - a) t.rest in
    let le = t.covered in
    let sum = p.sum in
    record { sum = omega (arith, now, le, sum, e); only = again l k m _ _ p.only t.rest ∙ ap (with_steps l) (sym now) }

pub paying-all : (total rest : ℕ) (l m : Left) → rest ≡ 0 → Paying total rest l m → IsTaken total l m
paying-all total rest l m none p =
    let sum = p.sum in
    let now : m.steps ≡ l.steps - total = omega (arith, sum, none) in
    record { covered = omega (arith, sum, none); rest = p.only ∙ ap (with_steps l) now }

pub paying-short : {B : Type 0} (a b total rest : ℕ) (l k m : Left) (e : Stop) (r : Result B Stop) → rest ≡ a + b → Paying total rest l k → Takes {A = Unit {0}} a k m (Err e) → r ≡ Err e → Takes total l m r
paying-short {B} a b total rest l k m e r f p t is = subst (Takes total l m) (sym is) (go e t)
  where
    go : (e : Stop) → Takes {A = Unit {0}} a k m (Err e) → Takes {A = B} total l m (Err e)
    go (stop.Raised v level) t = absurd t
    go stop.Spent t = let less = t.short in let sum = p.sum in record { short = omega (arith, less, sum, f); rest = again l k m _ _ p.only t.rest }
    go stop.NoMemory t = tt

-- ANSWERS
-- a charge that is not covered ends the function
pub paid-short : (n : ℕ) (p : Plain Proc) (s : StoreView) (l m : Left) (e : Stop) (r : Result (List Value) Stop) → n ≤ p.charge → Takes {A = Unit {0}} n l m (Err e) → r ≡ Err e → Paid p s l s m r
paid-short n p s l m e r c t is = subst (Paid p s l s m) (sym is) (go e t)
  where
    go : (e : Stop) → Takes {A = Unit {0}} n l m (Err e) → Paid p s l s m (Err e)
    go (stop.Raised v level) t = absurd t
    go stop.Spent t = let less = t.short in record { short = omega (arith, less, c); same = refl; rest = t.rest }
    go stop.NoMemory t = tt

-- values, after a charge that was covered
pub paid-values : (n : ℕ) (p : Plain Proc) (s : StoreView) (l : Left) (t : StoreView) (m : Left) (vs : List Value) → IsTaken n l m → p ≡ ends n t (Gives (values_seen t.texts vs)) → Paid p s l t m (Ok vs)
paid-values n p s l t m vs k e =
    let charge : p.charge ≡ n = ap (λ (q : Plain Proc). q.charge) e in
    record {
      covered = subst (λ x. x ≤ l.steps) (sym charge) k.covered;
      answer = e ∙ ap (λ x. ends x t (Gives (values_seen t.texts vs))) (sym charge);
      rest = k.rest ∙ ap (less_steps l) (sym charge);
    }

covers-more : (n : ℕ) (q : Plain Proc) (l k : Left) (t : StoreView) (m : Left) (end : PlainEnd) → IsTaken n l k → Covers q k t m end → Covers (with_charge n q) l t m end
covers-more n q l k t m end i c =
    let rest = steps_of l k (l.steps - n) i.rest in
    let le = i.covered in
    let more = c.covered in
    let sum : k.steps - q.charge ≡ l.steps - (n + q.charge) = omega (arith, rest, le, more) in
    record {
      covered = omega (arith, rest, le, more);
      answer = ap (with_charge n) c.answer;
      rest = again l k m _ _ i.rest c.rest ∙ ap (with_steps l) sum;
    }

-- what is paid for after another charge
pub paid-more : (n : ℕ) (q : Plain Proc) (s : StoreView) (l k : Left) (t : StoreView) (m : Left) (r : Result (List Value) Stop) → IsTaken n l k → Paid q s k t m r → Paid (with_charge n q) s l t m r
paid-more n q s l k t m (Ok vs) i p = covers-more n q l k t m _ i p
paid-more n q s l k t m (Err (stop.Raised v level)) i p = covers-more n q l k t m _ i p
paid-more n q s l k t m (Err stop.Spent) i p =
    let rest = steps_of l k (l.steps - n) i.rest in
    let le = i.covered in
    let less = p.short in
    record { short = omega (arith, rest, le, less); same = p.same; rest = again l k m _ _ i.rest p.rest }
paid-more n q s l k t m (Err stop.NoMemory) i p = tt
