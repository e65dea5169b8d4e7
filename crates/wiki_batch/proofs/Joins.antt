-- Shares put together again.
use Rattle.std.proofs.Common.{◌≡◌, ℕ, ◌+◌, ◌*◌, ◌<◌, ◌≤◌, ◌++◌, List, [], ◌∷◌, refl, sym, ◌∙◌, ap, append_assoc, append-nil, Result, Ok, Err, IfOk, length, take, drop, slice_index_or, arith, zero, suc, subst}
use Rattle.std.proofs.Math.Nat.{zero-mul, suc-mul}
use native.Mathlib.Nat.{mul-le-mul_right}
use Rattle.std.proofs.lemmas.List.{take-append-drop, length-drop, drop-drop}
use Rattle.wk_base.specs.declared.NoMemory.{NoMemory}
use Rattle.wiki_batch.specs.Shares.{Joined}

pub Joined-push : {T : Type 0} (parts : List (Result (List T) NoMemory)) (all xs : List T) → Joined parts all → Joined (parts ++ Ok xs ∷ []) (all ++ xs)
Joined-push {T} [] all xs j = ([], ap (λ (ys : List T). ys ++ xs) j ∙ sym (append-nil xs), refl)
Joined-push (Err e ∷ parts) all xs j = absurd j
Joined-push {T} (Ok ys ∷ parts) all xs j = (j.0 ++ xs, ap (λ (zs : List T). zs ++ xs) j.1 ∙ append_assoc ys j.0 xs, Joined-push parts j.0 xs j.2)

-- R says what is made of a list. It holds of nothing, and of two lists one behind the other where it holds of both.
module _ {S T : Type 0} (R : List S → List T → Type 0) (none : R [] []) (both : (xs ys : List S) (ps qs : List T) → R xs ps → R ys qs → R (xs ++ ys) (ps ++ qs)) where
  later : (size k : ℕ) (r : Result (List T) NoMemory) (xs : List S) → IfOk r (λ ps. R (take size (drop (suc k * size) xs)) ps) → IfOk r (λ ps. R (take size (drop (k * size) (drop size xs))) ps)
  later size k (Err e) xs h = h
  later size k (Ok ps) xs h =
      let same : suc k * size ≡ size + k * size = omega (arith, suc-mul k size) in
      let place : drop (suc k * size) xs ≡ drop (k * size) (drop size xs) = ap (λ (n : ℕ). drop n xs) same ∙ sym (drop-drop (k * size) size xs) in
      subst (λ (l : List S). R (take size l) ps) place h

  -- what is made of the shares, each of `size` items, is made of the whole list
  all_shares : (size : ℕ) (parts : List (Result (List T) NoMemory)) (all : List T) (xs : List S)
      → ((j : ℕ) (d : Result (List T) NoMemory) → j < length parts → IfOk (slice_index_or parts j d) (λ ps. R (take size (drop (j * size) xs)) ps))
      → length xs ≤ length parts * size → Joined parts all → R xs all
  all_shares size [] all [] each fits j = subst (λ (ps : List T). R [] ps) (sym j) none
  all_shares size [] all (x ∷ xs) each fits j = absurd (omega (arith, fits))
  all_shares size (Err e ∷ parts) all xs each fits j = absurd j
  all_shares size (Ok ps ∷ parts) all xs each fits j =
      let Q : ℕ → Type 0 = λ n. R (take size (drop n xs)) ps in
      let first : R (take size xs) ps = subst Q (zero-mul size) (each zero (Ok ps) (omega arith)) in
      let rest : R (drop size xs) j.0 =
      all_shares size parts j.0 (drop size xs) (λ k d h. later size k (slice_index_or parts k d) xs (each (suc k) d (omega (arith, h))))
      (omega (arith, fits, length-drop size xs, suc-mul (length parts) size)) j.2 in
      subst (λ (qs : List T). R xs qs) (sym j.1) (subst (λ (ys : List S). R ys (ps ++ j.0)) (take-append-drop size xs) (both (take size xs) (drop size xs) ps j.0 first rest))

  pub of_joined : (size shares : ℕ) (parts : List (Result (List T) NoMemory)) (xs : List S) (r : Result (List T) NoMemory)
      → length xs ≤ shares * size → length parts ≡ shares
      → ((j : ℕ) (d : Result (List T) NoMemory) → j < shares → IfOk (slice_index_or parts j d) (λ ps. R (take size (drop (j * size) xs)) ps))
      → IfOk r (λ all. Joined parts all) → IfOk r (λ all. R xs all)
  of_joined size shares parts xs (Err e) whole len each j = j
  of_joined size shares parts xs (Ok all) whole len each j =
      all_shares size parts all xs (λ k d h. each k d (omega (arith, h, len))) (subst (λ (n : ℕ). length xs ≤ n * size) (sym len) whole) j

-- a share begins before the end
pub before_end : (j size shares count : ℕ) → j < shares → shares * size < count + size → j * size ≤ count
before_end j size shares count less end =
    let more : suc j * size ≤ shares * size = mul-le-mul_right size (omega (arith, less)) in
    omega (arith, more, suc-mul j size, end)
