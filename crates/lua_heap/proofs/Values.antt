-- `same` decides whether two values are equal.
use Rattle.std.proofs.Common.{◌≡◌, Bool, true, false, refl, sym, ap, subst}
use Rattle.std.specs.Bool.{Decides}
use Rattle.std.specs.Cmp.{IsEquivalence, booleans_Decides}
use Rattle.std.proofs.lemmas.Bool.Decides.{Decides-int_eq, Decides-eqb}
use Rattle.std.proofs.lemmas.Slice.Eq.{bytes_eq-Decides}
use denote.Enum.Bare.{same_true, true_same}
use Rattle.lua_heap.specs.contracts.library.Library.{the_type}
use Rattle.lua_heap.specs.Value.{Value, Nil, Truth, Number, Text, Table, Closure, Builtin, Markup, same}

pub same-alike : (v : Value) → same v v ≡ true
same-alike Nil = refl
same-alike (Truth b) = (booleans_Decides b b).1 refl
same-alike (Number n) = (Decides-int_eq n n).1 refl
same-alike (Text bytes) = (bytes_eq-Decides bytes bytes).1 refl
same-alike (Table t) = (Decides-eqb t t).1 refl
same-alike (Closure t) = (Decides-eqb t t).1 refl
same-alike (Builtin t) = true_same the_type t t refl
same-alike (Markup t) = (Decides-eqb t t).1 refl

pub same-true : (v w : Value) → same v w ≡ true → v ≡ w
same-true Nil Nil e = refl
same-true (Truth a) (Truth b) e = ap Truth ((booleans_Decides a b).0 e)
same-true (Number a) (Number b) e = ap Number ((Decides-int_eq a b).0 e)
same-true (Text a) (Text b) e = ap Text ((bytes_eq-Decides a b).0 e)
same-true (Table a) (Table b) e = ap Table ((Decides-eqb a b).0 e)
same-true (Closure a) (Closure b) e = ap Closure ((Decides-eqb a b).0 e)
same-true (Builtin a) (Builtin b) e = ap Builtin (same_true the_type tt a b e)
same-true (Markup a) (Markup b) e = ap Markup ((Decides-eqb a b).0 e)
same-true Nil (Truth b) e = cc
same-true Nil (Number b) e = cc
same-true Nil (Text b) e = cc
same-true Nil (Table b) e = cc
same-true Nil (Closure b) e = cc
same-true Nil (Builtin b) e = cc
same-true Nil (Markup b) e = cc
same-true (Truth a) Nil e = cc
same-true (Truth a) (Number b) e = cc
same-true (Truth a) (Text b) e = cc
same-true (Truth a) (Table b) e = cc
same-true (Truth a) (Closure b) e = cc
same-true (Truth a) (Builtin b) e = cc
same-true (Truth a) (Markup b) e = cc
same-true (Number a) Nil e = cc
same-true (Number a) (Truth b) e = cc
same-true (Number a) (Text b) e = cc
same-true (Number a) (Table b) e = cc
same-true (Number a) (Closure b) e = cc
same-true (Number a) (Builtin b) e = cc
same-true (Number a) (Markup b) e = cc
same-true (Text a) Nil e = cc
same-true (Text a) (Truth b) e = cc
same-true (Text a) (Number b) e = cc
same-true (Text a) (Table b) e = cc
same-true (Text a) (Closure b) e = cc
same-true (Text a) (Builtin b) e = cc
same-true (Text a) (Markup b) e = cc
same-true (Table a) Nil e = cc
same-true (Table a) (Truth b) e = cc
same-true (Table a) (Number b) e = cc
same-true (Table a) (Text b) e = cc
same-true (Table a) (Closure b) e = cc
same-true (Table a) (Builtin b) e = cc
same-true (Table a) (Markup b) e = cc
same-true (Closure a) Nil e = cc
same-true (Closure a) (Truth b) e = cc
same-true (Closure a) (Number b) e = cc
same-true (Closure a) (Text b) e = cc
same-true (Closure a) (Table b) e = cc
same-true (Closure a) (Builtin b) e = cc
same-true (Closure a) (Markup b) e = cc
same-true (Builtin a) Nil e = cc
same-true (Builtin a) (Truth b) e = cc
same-true (Builtin a) (Number b) e = cc
same-true (Builtin a) (Text b) e = cc
same-true (Builtin a) (Table b) e = cc
same-true (Builtin a) (Closure b) e = cc
same-true (Builtin a) (Markup b) e = cc
same-true (Markup a) Nil e = cc
same-true (Markup a) (Truth b) e = cc
same-true (Markup a) (Number b) e = cc
same-true (Markup a) (Text b) e = cc
same-true (Markup a) (Table b) e = cc
same-true (Markup a) (Closure b) e = cc
same-true (Markup a) (Builtin b) e = cc

pub same_decides : (v w : Value) → Decides (same v w) (v ≡ w)
same_decides v w = (same-true v w, λ e. subst (λ x. same v x ≡ true) e (same-alike v))

-- two tests that are true in the same cases are one
pub both_ways : (x y : Bool) → (x ≡ true → y ≡ true) → (y ≡ true → x ≡ true) → x ≡ y
both_ways true y f g = sym (f refl)
both_ways false true f g = g refl
both_ways false false f g = refl

pub same_equiv : IsEquivalence same
same_equiv = record {
  refl = same-alike;
  symm = λ v w. both_ways (same v w) (same w v)
      (λ e. subst (λ x. same x v ≡ true) (same-true v w e) (same-alike v))
      (λ e. subst (λ x. same x w ≡ true) (same-true w v e) (same-alike w));
  congr = λ v w u e. ap (λ x. same x u) (same-true v w e);
}
