-- Texts and names that were met: where one stands, that the others keep their places, and a copy of each.
use Rattle.std.proofs.Common.{◌≡◌, ℕ, zero, suc, ◌+◌, Bool, true, false, cond, List, [], ◌∷◌, ◌++◌, drop, slice_get, Option, Some, None, refl, sym, ap, subst, ◌∙◌, arith}
use Rattle.std.specs.Borrow.{Bor}
use Rattle.std.specs.List.{list_any}
use Rattle.std.specs.Option.{option_map}
use Rattle.std.specs.Str.{bytes_eq}
use Rattle.std.specs.Cmp.Lexicographic.{same_text}
use Rattle.std.proofs.lemmas.Option.{slice_get-map, none-some}
use Rattle.indexmap.specs.IndexSet.{insert_key}
use Rattle.lua_code.specs.LuaMeaningScope.{Bytes}
use Rattle.lua_resolve.specs.Constants.{bytes_of, StayNumbered}

abbrev Key : Type 0
Key = Bor Bytes

pub stands : (bs : Bytes) (met : List Key) (at : ℕ) (k : Key) → slice_get met at ≡ Some k → true ≡ bytes_eq bs k.now → slice_get (bytes_of met) at ≡ Some bs
stands bs met at k is same = slice_get-map (λ b. b.now) met at ∙ ap (option_map (λ b. b.now)) is ∙ ap Some (sym (same_text bs k.now same))

kept : (met : List Key) (k : Key) (n : ℕ) (t : Bytes) → slice_get (bytes_of met) n ≡ Some t → slice_get (bytes_of (met ++ k ∷ [])) n ≡ Some t
kept [] k n t e = cc
kept (m ∷ met) k zero t e = e
kept (m ∷ met) k (suc n) t e = kept met k n t e

pub stay : (met new : List Key) (k : Key) → new ≡ insert_key (λ x y. bytes_eq x.now y.now) met k → StayNumbered (bytes_of met) (bytes_of new)
stay met new k is n t e = subst (λ l. slice_get (bytes_of l) n ≡ Some t) (sym is) (both (list_any (λ y. bytes_eq k.now y.now) met))
  where
    both : (b : Bool) → slice_get (bytes_of (cond b met (met ++ k ∷ []))) n ≡ Some t
    both true = e
    both false = kept met k n t e

pub drop_at : {A : Type 0} (xs : List A) (n : ℕ) (x : A) → slice_get xs n ≡ Some x → drop n xs ≡ x ∷ drop (n + 1) xs
drop_at [] n x h = absurd (none-some x h)
drop_at (y ∷ xs) zero x h = let same : y ≡ x = cc in ap (λ z. z ∷ xs) same
drop_at (y ∷ xs) (suc n) x h = let e : suc n + 1 ≡ suc (n + 1) = omega arith in drop_at xs n x h ∙ ap (λ k. x ∷ drop k (y ∷ xs)) (sym e)

pub drop_past : {A : Type 0} (xs : List A) (n : ℕ) → slice_get xs n ≡ None → drop n xs ≡ []
drop_past [] zero h = refl
drop_past [] (suc n) h = refl
drop_past (y ∷ xs) zero h = absurd (none-some y (sym h))
drop_past (y ∷ xs) (suc n) h = drop_past xs n h
