-- Two values of one store are the same value exactly where what is seen of them is.
use Rattle.std.proofs.Common.{◌≡◌, ℕ, zero, suc, ◌<◌, true, false, true≢false, List, [], ◌∷◌, length, refl, sym, ap, ◌∙◌, arith, subst}
use Rattle.std.specs.Cmp.{IsEquivalence}
use Rattle.std.specs.List.{IsDistinct}
use Rattle.std.specs.Str.{bytes_eq}
use Rattle.std.proofs.lemmas.Slice.Eq.{bytes_eq-Decides}
use Rattle.std.proofs.lemmas.Bool.Decides.{Decides-int_eq, Decides-eqb}
use Rattle.lua_heap.specs.Value.{same}
use Rattle.lua_heap.proofs.Values.{same-alike, same-true, both_ways}
use Rattle.lua_store.specs.declared.value.Value.{Value}
use denote.Enum.Bare.{true_same}
use Rattle.lua_heap.specs.contracts.library.Library.{the_type}
use Rattle.lua_store.specs.declared.value.Value.TheVariants.{Nil, Bool as Truth, Number, Text, Table, Closure, Builtin, Markup}
use Rattle.lua_store.specs.contracts.value.ValuePartialEq.TheImpl.{ghosts}
use Rattle.lua_store.specs.ValueLaws.{same_value}
use Rattle.lua_store.specs.Seen.{StoreView, text_at, seen}
use Rattle.lua_store.specs.Parts.{IsOf}
use Rattle.lua_store.proofs.Lists.{all-at}

-- no text stands twice
pub one_place : (texts : List (List ℕ)) (a b : ℕ) → IsDistinct bytes_eq texts → a < length texts → b < length texts → text_at texts a ≡ text_at texts b → a ≡ b
unfolding IsDistinct
one_place [] a b d h k e = absurd (omega (arith, h))
one_place (t ∷ ts) zero zero d h k e = refl
one_place (t ∷ ts) zero (suc b) d h k e = absurd (true≢false (sym ((bytes_eq-Decides t (text_at ts b)).1 e) ∙ all-at (λ u. bytes_eq t u ≡ false) ts b [] d.0 (omega (arith, k))))
one_place (t ∷ ts) (suc a) zero d h k e = absurd (true≢false (sym ((bytes_eq-Decides t (text_at ts a)).1 (sym e)) ∙ all-at (λ u. bytes_eq t u ≡ false) ts a [] d.0 (omega (arith, h))))
one_place (t ∷ ts) (suc a) (suc b) d h k e = ap suc (one_place ts a b d.1 (omega (arith, h)) (omega (arith, k)) e)

pub seen-one : (s : StoreView) (a b : Value) → IsDistinct bytes_eq s.texts → IsOf s a → IsOf s b → seen s.texts a ≡ seen s.texts b → a ≡ b
seen-one s Nil Nil d h k e = refl
seen-one s (Truth a) (Truth b) d h k e = ap Truth cc
seen-one s (Number a) (Number b) d h k e = ap Number cc
seen-one s (Text a) (Text b) d h k e = ap (λ n. Text (record { at = n })) (one_place s.texts a.at b.at d h k cc)
seen-one s (Table a) (Table b) d h k e = let is : a.at ≡ b.at = cc in ap (λ n. Table (record { at = n })) is
seen-one s (Closure a) (Closure b) d h k e = let is : a.at ≡ b.at = cc in ap (λ n. Closure (record { at = n })) is
seen-one s (Builtin a) (Builtin b) d h k e = ap Builtin cc
seen-one s (Markup a) (Markup b) d h k e = let is : a.at ≡ b.at = cc in ap (λ n. Markup (record { at = n })) is
seen-one s _ _ d h k e = cc

same_value-alike : (a : Value) → ghosts.eq a a ≡ true
same_value-alike Nil = refl
same_value-alike (Truth true) = refl
same_value-alike (Truth false) = refl
same_value-alike (Number n) = (Decides-int_eq n n).1 refl
same_value-alike (Text id) = (Decides-eqb id.at id.at).1 refl
same_value-alike (Table id) = (Decides-eqb id.at id.at).1 refl
same_value-alike (Closure id) = (Decides-eqb id.at id.at).1 refl
same_value-alike (Builtin id) = true_same the_type id id refl
same_value-alike (Markup id) = (Decides-eqb id.at id.at).1 refl

pub eq-laws : IsEquivalence ghosts.eq
eq-laws = record {
  refl = same_value-alike;
  symm = λ a b. both_ways (ghosts.eq a b) (ghosts.eq b a)
      (λ e. subst (λ v. ghosts.eq v a ≡ true) (same_value a b e) (same_value-alike a))
      (λ e. subst (λ v. ghosts.eq v b ≡ true) (same_value b a e) (same_value-alike b));
  congr = λ a b c e. ap (λ v. ghosts.eq v c) (same_value a b e);
}

pub eq-seen : (s : StoreView) → IsDistinct bytes_eq s.texts → (a b : Value) → IsOf s a → IsOf s b → ghosts.eq a b ≡ same (seen s.texts a) (seen s.texts b)
eq-seen s d a b h k = both_ways (ghosts.eq a b) (same (seen s.texts a) (seen s.texts b))
    (λ e. subst (λ v. same (seen s.texts a) (seen s.texts v) ≡ true) (same_value a b e) (same-alike (seen s.texts a)))
    (λ e. subst (λ v. ghosts.eq a v ≡ true) (seen-one s a b d h k (same-true (seen s.texts a) (seen s.texts b) e)) (same_value-alike a))
