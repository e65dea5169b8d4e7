-- Places of lists, and options.
use Rattle.std.proofs.Common.{◌≡◌, ◌≢◌, ℕ, zero, suc, ◌+◌, ◌<◌, List, [], ◌∷◌, ◌++◌, length, map, Option, Some, None, slice_get, slice_set, refl, ◌∙◌, ap, inl, inr, ◌⊎◌, arith, IsTrue, is_some}
use Rattle.std.specs.Option.{option_map}

-- PLACES
pub get-seam : {A : Type 0} (xs : List A) (y : A) → slice_get (xs ++ y ∷ []) (length xs) ≡ Some y
get-seam [] y = refl
get-seam (x ∷ xs) y = get-seam xs y

pub get-past : {A : Type 0} (xs : List A) → slice_get xs (length xs) ≡ None
get-past [] = refl
get-past (x ∷ xs) = get-past xs

pub get-left : {A : Type 0} (xs ys : List A) (n : ℕ) (x : A) → slice_get xs n ≡ Some x → slice_get (xs ++ ys) n ≡ Some x
get-left [] ys n x e = cc
get-left (y ∷ xs) ys zero x e = e
get-left (y ∷ xs) ys (suc n) x e = get-left xs ys n x e

-- an element of a longer list is the new one or an old one
pub get-cases : {A : Type 0} (xs : List A) (y : A) (n : ℕ) (x : A) → slice_get (xs ++ y ∷ []) n ≡ Some x → ((n ≡ length xs) × (y ≡ x)) ⊎ (slice_get xs n ≡ Some x)
get-cases [] y zero x e = inl (refl, cc)
get-cases [] y (suc n) x e = cc
get-cases (z ∷ xs) y zero x e = inr e
get-cases (z ∷ xs) y (suc n) x e = elim (get-cases xs y n x e) [ inl p ↦ inl (ap suc p.0, p.1) | inr p ↦ inr p ]

pub get-set : {A : Type 0} (xs : List A) (n : ℕ) (x y : A) → slice_get xs n ≡ Some x → slice_get (slice_set xs n y) n ≡ Some y
get-set [] n x y e = cc
get-set (z ∷ xs) zero x y e = refl
get-set (z ∷ xs) (suc n) x y e = get-set xs n x y e

pub get-set_other : {A : Type 0} (xs : List A) (n k : ℕ) (y : A) → k ≢ n → slice_get (slice_set xs n y) k ≡ slice_get xs k
get-set_other [] n k y d = refl
get-set_other (z ∷ xs) zero zero y d = absurd (d refl)
get-set_other (z ∷ xs) zero (suc k) y d = refl
get-set_other (z ∷ xs) (suc n) zero y d = refl
get-set_other (z ∷ xs) (suc n) (suc k) y d = get-set_other xs n k y (λ e. d (ap suc e))

-- how far i is behind the first k numbers, or None where it is one of them
abbrev pub part : ℕ → ℕ → Option ℕ
part zero i = Some i
part (suc k) zero = None
part (suc k) (suc i) = part k i

pub some_back : {A : Type 0} {x y : A} → Some x ≡ Some y → x ≡ y
some_back g = cc

pub clash : {X : Type 0} {A : Type 0} {o : Option X} {x : X} → o ≡ Some x → o ≡ None → A
clash e f = cc

pub part-some : (k i j : ℕ) → part k i ≡ Some j → i ≡ k + j
part-some zero i j e = let f : i ≡ j = some_back e in omega (arith, f)
part-some (suc k) zero j e = cc
part-some (suc k) (suc i) j e = let f = part-some k i j e in omega (arith, f)

pub part-add : (k j : ℕ) → part k (k + j) ≡ Some j
part-add zero j = let f : 0 + j ≡ j = omega arith in ap Some f
part-add (suc k) j = let f : suc k + j ≡ suc (k + j) = omega arith in ap (λ (x : ℕ). part (suc k) x) f ∙ part-add k j

pub part-below : (k i : ℕ) → i < k → part k i ≡ None
part-below zero i h = absurd (omega (arith, h))
part-below (suc k) zero h = refl
part-below (suc k) (suc i) h = part-below k i (omega (arith, h))

pub get-part : {A : Type 0} (xs ys : List A) (i j : ℕ) → part (length xs) i ≡ Some j → slice_get (xs ++ ys) i ≡ slice_get ys j
get-part [] ys i j e = ap (λ (x : ℕ). slice_get ys x) (some_back e)
get-part (x ∷ xs) ys zero j e = cc
get-part (x ∷ xs) ys (suc i) j e = get-part xs ys i j e

pub get-first : {A : Type 0} (xs ys : List A) (i : ℕ) → part (length xs) i ≡ None → slice_get (xs ++ ys) i ≡ slice_get xs i
get-first [] ys i e = cc
get-first (x ∷ xs) ys zero e = refl
get-first (x ∷ xs) ys (suc i) e = get-first xs ys i e

pub get-map : {A B : Type 0} (f : A → B) (xs : List A) (i : ℕ) → slice_get (map f xs) i ≡ option_map f (slice_get xs i)
get-map f [] i = refl
get-map f (y ∷ xs) zero = refl
get-map f (y ∷ xs) (suc i) = get-map f xs i

-- OPTIONS
pub of-some : {A B : Type 0} (f : A → B) (o : Option A) (x : A) → o ≡ Some x → option_map f o ≡ Some (f x)
of-some f None x e = cc
of-some f (Some y) x e = cc

pub of-some_back : {A B : Type 0} (f : A → B) (o : Option A) (b : B) → option_map f o ≡ Some b → (x : A) × (o ≡ Some x) × (f x ≡ b)
of-some_back f None b e = cc
of-some_back f (Some y) b e = (y, refl, cc)

pub of-none : {A B : Type 0} (f : A → B) (o : Option A) → o ≡ None → option_map f o ≡ None
of-none f None e = refl
of-none f (Some y) e = cc

pub some-is : {A : Type 0} (o : Option A) (x : A) → o ≡ Some x → IsTrue (is_some o)
some-is None x e = cc
some-is (Some y) x e = refl

pub is-some : {A : Type 0} (o : Option A) → IsTrue (is_some o) → (x : A) × (o ≡ Some x)
is-some None e = cc
is-some (Some y) e = (y, refl)

-- what is nowhere later was nowhere before
pub gone : {A : Type 0} (o : Option A) → ((x : A) → o ≡ Some x → ⊥) → o ≡ None
gone None f = refl
gone (Some x) f = absurd (f x refl)
