-- A list that is held with its newest item last: cut, written and read from the newest on.
use Rattle.std.proofs.Common.{◌≡◌, ℕ, zero, suc, ◌+◌, ◌-◌, ◌<◌, ◌≤◌, List, [], ◌∷◌, ◌++◌, length, reverse, take, drop, Some, None, refl, sym, ◌∙◌, ap, slice_get, slice_set, arith}
use Rattle.std.proofs.lemmas.List.{take-append-drop, reverse-append, length-reverse, length-drop, set-append_left, get_or-reverse}
use Rattle.std.proofs.Math.Seq.{drop-append_seam, set-append_seam}
use Rattle.std.proofs.Math.ListN.{get_or}
use Rattle.std.proofs.lemmas.Option.{slice_get_past, slice_get-get_or}

rev-cons : {A : Type 0} (x : A) (xs : List A) → reverse (x ∷ xs) ≡ reverse xs ++ x ∷ []
rev-cons x xs = reverse-append (x ∷ []) xs

-- the oldest n items
pub cut_to : {A : Type 0} (n : ℕ) (xs : List A) → reverse (take n xs) ≡ drop (length (reverse xs) - n) (reverse xs)
cut_to n xs =
    let l : length (reverse xs) - n ≡ length (reverse (drop n xs)) = ap (λ k. k - n) (length-reverse xs) ∙ sym (length-drop n xs) ∙ sym (length-reverse (drop n xs)) in
    let e : reverse xs ≡ reverse (drop n xs) ++ reverse (take n xs) = ap reverse (sym (take-append-drop n xs)) ∙ reverse-append (take n xs) (drop n xs) in
    sym (ap (λ k. drop k (reverse xs)) l ∙ ap (drop (length (reverse (drop n xs)))) e ∙ drop-append_seam (reverse (drop n xs)) (reverse (take n xs)))

-- another item at a place
set_from : {A : Type 0} (xs : List A) (k i : ℕ) (x : A) → k + suc i ≡ length xs → reverse (slice_set xs k x) ≡ slice_set (reverse xs) i x
set_from [] k i x e = absurd (omega (arith, e))
set_from (y ∷ ys) zero i x e =
    let n : i ≡ length (reverse ys) = omega (arith, e, length-reverse ys) in
    rev-cons x ys ∙ sym (ap (λ l. slice_set l i x) (rev-cons y ys) ∙ ap (λ m. slice_set (reverse ys ++ y ∷ []) m x) n ∙ set-append_seam (reverse ys) y [] x)
set_from (y ∷ ys) (suc k) i x e =
    let h : i < length (reverse ys) = omega (arith, e, length-reverse ys) in
    rev-cons y (slice_set ys k x) ∙ ap (λ l. l ++ y ∷ []) (set_from ys k i x (omega (arith, e)))
    ∙ sym (ap (λ l. slice_set l i x) (rev-cons y ys) ∙ set-append_left (reverse ys) (y ∷ []) i x h)

pub set_at : {A : Type 0} (xs : List A) (i : ℕ) (x : A) → i < length xs → reverse (slice_set xs (length xs - 1 - i) x) ≡ slice_set (reverse xs) i x
set_at xs i x h = set_from xs (length xs - 1 - i) i x (omega (arith, h))

set_none : {A : Type 0} (xs : List A) (i : ℕ) (x : A) → length xs ≤ i → slice_set xs i x ≡ xs
set_none [] i x h = refl
set_none (y ∷ ys) zero x h = absurd (omega (arith, h))
set_none (y ∷ ys) (suc i) x h = ap (λ l. y ∷ l) (set_none ys i x (omega (arith, h)))

pub set_past : {A : Type 0} (xs : List A) (i : ℕ) (x : A) → length xs ≤ i → reverse xs ≡ slice_set (reverse xs) i x
set_past xs i x h = sym (set_none (reverse xs) i x (omega (arith, h, length-reverse xs)))

-- the item at a place
pub get_past : {A : Type 0} (xs : List A) (i : ℕ) → length xs ≤ i → None ≡ slice_get (reverse xs) i
get_past xs i h = sym (slice_get_past (reverse xs) i (omega (arith, h, length-reverse xs)))

pub get_at : {A : Type 0} (xs : List A) (i : ℕ) (d : A) → i < length xs → Some (get_or xs (length xs - 1 - i) d) ≡ slice_get (reverse xs) i
get_at xs i d h = sym (slice_get-get_or (reverse xs) i d (omega (arith, h, length-reverse xs)) ∙ ap Some (get_or-reverse xs i d h))
