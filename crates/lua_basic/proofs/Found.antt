-- Arguments that are found, and those that are refused.
use Rattle.std.proofs.Common.{◌≡◌, ℕ, ◌-◌, ℤ, true, false, List, [], ◌∷◌, Ok, Err, refl, arith, sym, ap, subst, ◌∙◌}
use Rattle.std.specs.Prelude.{Result}
use Rattle.lua_store.specs.LuaHeapProc.{Proc}
use Rattle.lua_store.specs.LuaHeapHeap.{Heap}
use Rattle.lua_meaning.specs.LuaHeapValue as kind
use Rattle.lua_meaning.specs.LuaHeapValue.{is_nil}
use Rattle.lua_meaning.specs.Scope.{Bytes}
use Rattle.lua_meaning.specs.Values.{first}
use Rattle.lua_meaning.specs.Arguments.{Plain, PlainEnd, Argument, with_argument, fails, number_or, a_number}
use Rattle.lua_store.specs.declared.value.Value.{Value}
use Rattle.lua_store.specs.Seen.{StoreView}
use Rattle.lua_number.specs.WkBaseDeclaredLeftLeft.{Left}
use Rattle.lua_basic.specs.declared.stop.Stop.{Stop}
use Rattle.lua_basic.specs.declared.stop.Stop.TheVariants as stop
use Rattle.lua_basic.specs.Seen.{ends, less_steps, Stops, Free, Covers, Paid, Refuses}

-- an argument that is none ends its function
pub refused : {Y : Type 0} (a : Argument Y) (message : Bytes) (s t : StoreView) (e : Stop) → a ≡ Err message → Stops (fails s.heap message) t e → Refuses a s t e
refused a message s t e is stops = λ next. subst (λ x. Stops (with_argument s.heap x next) t e) (sym is) stops

pub stopped : {Y : Type 0} (a b : Argument Y) (next : Y → Plain Proc) (s t : StoreView) (e : Stop) (r : Result (List Value) Stop) → Refuses a s t e → a ≡ b → r ≡ Err e → Free (with_argument s.heap b next) t r
stopped a b next s t e r none same is = subst (Free (with_argument s.heap b next) t) (sym is) (subst (λ x. Stops (with_argument s.heap x next) t e) same (none next))

pub found : {Y : Type 0} (a b : Argument Y) (y : Y) (h : Heap Proc) (next : Y → Plain Proc) → a ≡ Ok y → a ≡ b → with_argument h b next ≡ next y
found a b y h next is same = ap (λ x. with_argument h x next) (sym same ∙ is)

-- a number that may be left out
pub left_out : (default : ℤ) (n : ℕ) (function : Bytes) (given : List kind.Value) → is_nil (first given) ≡ true → number_or default n function given ≡ Ok default
left_out default n function [] h = refl
left_out default n function (kind.Nil ∷ vs) h = refl
left_out default n function (v ∷ vs) h = absurd cc

pub not_left_out : (default : ℤ) (n : ℕ) (function : Bytes) (given : List kind.Value) → is_nil (first given) ≡ false → number_or default n function given ≡ a_number n function given
not_left_out default n function [] h = absurd cc
not_left_out default n function (kind.Nil ∷ vs) h = absurd cc
not_left_out default n function (v ∷ vs) h = refl

-- what costs nothing is paid for
covers : (p : Plain Proc) (t : StoreView) (l : Left) (end : PlainEnd) → p ≡ ends 0 t end → Covers p l t l end
covers p t l end e =
    let charge : p.charge ≡ 0 = ap (λ q. q.charge) e in
    let none : l.steps - 0 ≡ l.steps = omega arith in
    record {
      covered = omega (arith, charge);
      answer = e ∙ ap (λ n. ends n t end) (sym charge);
      rest = sym (ap (λ n. less_steps l n) charge ∙ ap (λ n. let m : Left = record l { steps = n } in m) none);
    }

pub for_nothing : (p : Plain Proc) (s t : StoreView) (l : Left) (r : Result (List Value) Stop) → Free p t r → Paid p s l t l r
for_nothing p s t l (Ok vs) e = covers p t l _ e
for_nothing p s t l (Err (stop.Raised v level)) e = covers p t l _ e
for_nothing p s t l (Err stop.Spent) e = absurd e
for_nothing p s t l (Err stop.NoMemory) e = tt
