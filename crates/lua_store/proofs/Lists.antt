-- Facts of each element of a list, as one element is read, written or added.
use Rattle.std.proofs.Common.{◌≡◌, ℕ, zero, suc, ◌<◌, List, [], ◌∷◌, ◌++◌, length, map, refl, ap, arith, slice_get, slice_set, slice_index_or, Some, subst, ◌∙◌}
use Rattle.std.specs.List.{AllByRecursion}

module _ {X : Type 0} (P : X → Type 0) where
  pub all-at : (xs : List X) (i : ℕ) (d : X) → AllByRecursion P xs → i < length xs → P (slice_index_or xs i d)
  all-at [] i d all within = absurd (omega (arith, within))
  all-at (x ∷ xs) zero d all within = all.0
  all-at (x ∷ xs) (suc i) d all within = all-at xs i d all.1 (omega (arith, within))

  pub all-set : (xs : List X) (i : ℕ) (x : X) → AllByRecursion P xs → P x → AllByRecursion P (slice_set xs i x)
  all-set [] i x all p = tt
  all-set (y ∷ xs) zero x all p = (p, all.1)
  all-set (y ∷ xs) (suc i) x all p = (all.0, all-set xs i x all.1 p)

  pub all-push : (xs : List X) (x : X) → AllByRecursion P xs → P x → AllByRecursion P (xs ++ x ∷ [])
  all-push [] x all p = (p, tt)
  all-push (y ∷ xs) x all p = (all.0, all-push xs x all.1 p)

  pub all-to : (Q : X → Type 0) → ((x : X) → P x → Q x) → (xs : List X) → AllByRecursion P xs → AllByRecursion Q xs
  all-to Q step [] all = tt
  all-to Q step (x ∷ xs) all = (step x all.0, all-to Q step xs all.1)

  -- two functions that agree where P holds
  pub map-alike : {Y : Type 0} (f g : X → Y) → ((x : X) → P x → f x ≡ g x) → (xs : List X) → AllByRecursion P xs → map f xs ≡ map g xs
  map-alike f g step [] all = refl
  map-alike f g step (x ∷ xs) all = ap (λ y. y ∷ map f xs) (step x all.0) ∙ ap (λ ys. g x ∷ ys) (map-alike f g step xs all.1)

  pub all-get : (xs : List X) (i : ℕ) (x : X) → AllByRecursion P xs → slice_get xs i ≡ Some x → P x
  all-get [] i x all e = cc
  all-get (y ∷ xs) zero x all e = let is : y ≡ x = cc in subst P is all.0
  all-get (y ∷ xs) (suc i) x all e = all-get xs i x all.1 e
