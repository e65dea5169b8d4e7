-- Keys that were met: where one stands, and one more; the only one of a list.
use Rattle.std.proofs.Common.{◌≡◌, ℕ, zero, suc, ◌+◌, ◌≤◌, Bool, true, false, ◌||◌, cond, List, [], ◌∷◌, ◌++◌, map, drop, length, slice_get, Some, None, refl, sym, ap, ◌∙◌, arith}
use Rattle.std.specs.Borrow.{Bor}
use Rattle.std.specs.List.{list_any}
use Rattle.std.specs.Str.{bytes_eq}
use Rattle.std.proofs.lemmas.Option.{none-some}
use Rattle.std.proofs.lemmas.List.{map-append}
use Rattle.indexmap.specs.IndexSet.{insert_key}
use Rattle.lua_syntax.specs.declared.Expr.{Expr}
use Rattle.lua_syntax.specs.View.{exprs_view}
use Rattle.case_names.specs.Cases.{only_one, with_case}

abbrev pub Key : Type 0
Key = Bor (List ℕ)

abbrev pub bytes_of : List Key → List (List ℕ)
bytes_of keys = map (λ (k : Key). k.now) keys

pub drop_at : {A : Type 0} (xs : List A) (n : ℕ) (x : A) → slice_get xs n ≡ Some x → drop n xs ≡ x ∷ drop (n + 1) xs
drop_at [] n x h = absurd (none-some x h)
drop_at (y ∷ xs) zero x h = let same : y ≡ x = cc in ap (λ z. z ∷ xs) same
drop_at (y ∷ xs) (suc n) x h = let e : suc n + 1 ≡ suc (n + 1) = omega arith in drop_at xs n x h ∙ ap (λ k. x ∷ drop k (y ∷ xs)) (sym e)

pub drop_past : {A : Type 0} (xs : List A) (n : ℕ) → slice_get xs n ≡ None → drop n xs ≡ []
drop_past [] zero h = refl
drop_past [] (suc n) h = refl
drop_past (y ∷ xs) zero h = absurd (none-some y (sym h))
drop_past (y ∷ xs) (suc n) h = drop_past xs n h

same_any : (met : List Key) (k : Key) → list_any (λ y. bytes_eq k.now y.now) met ≡ list_any (bytes_eq k.now) (bytes_of met)
same_any [] k = refl
same_any (m ∷ met) k = go (bytes_eq k.now m.now) (same_any met k)
  where
    go : (b : Bool) → list_any (λ y. bytes_eq k.now y.now) met ≡ list_any (bytes_eq k.now) (bytes_of met) → (b || list_any (λ y. bytes_eq k.now y.now) met) ≡ (b || list_any (bytes_eq k.now) (bytes_of met))
    go true e = refl
    go false e = e

-- one key more, where it isn't there
pub one_more : (met new : List Key) (k : Key) → new ≡ insert_key (λ x y. bytes_eq x.now y.now) met k → bytes_of new ≡ with_case (bytes_of met) k.now
one_more met new k is = ap bytes_of is ∙ both (list_any (λ y. bytes_eq k.now y.now) met) ∙ ap (λ (b : Bool). cond b (bytes_of met) (bytes_of met ++ k.now ∷ [])) (same_any met k)
  where
    both : (b : Bool) → bytes_of (cond b met (met ++ k ∷ [])) ≡ cond b (bytes_of met) (bytes_of met ++ k.now ∷ [])
    both true = refl
    both false = map-append (λ (k : Key). k.now) met (k ∷ [])

-- several expressions have no only one
pub several : (es : List Expr) → 2 ≤ length es → None ≡ only_one (exprs_view es)
several [] h = absurd (omega (arith, h))
several (a ∷ []) h = absurd (omega (arith, h))
several (a ∷ b ∷ es) h = refl
