-- The bytes that begin a code point, from the back of a text.
use Rattle.std.proofs.Common.{◌≡◌, ℕ, zero, suc, ◌+◌, ◌-◌, ◌<◌, Bool, true, false, if◌then◌else◌, List, [], ◌∷◌, ◌++◌, length, reverse, slice_get, Option, Some, sym, ap, ◌∙◌, arith}
use Rattle.std.specs.List.{IsLastAndRest}
use Rattle.std.proofs.lemmas.List.{reverse-append}
use Rattle.lua_string.specs.LuaPatternTexts.{goes_on}
use Rattle.mw_ustring.specs.Texts.{begun}

pub get_later : (x n : ℕ) (xs : List ℕ) → 0 < n → slice_get (x ∷ xs) n ≡ slice_get xs (n - 1)
get_later x zero xs h = absurd (omega (arith, h))
get_later x (suc n) xs h = let e : suc n - 1 ≡ n = omega arith in ap (slice_get xs) (sym e)

-- from the back
begun_last : (at b : ℕ) (bs : List ℕ) → begun at (bs ++ b ∷ []) ≡ begun at bs ++ (if goes_on b then [] else (at + length bs) ∷ [])
begun_last at b [] = let e : at + 0 ≡ at = omega arith in ap (λ m. if goes_on b then [] else m ∷ []) (sym e)
begun_last at b (c ∷ bs) =
    let e : suc at + length bs ≡ at + suc (length bs) = omega arith in
    let last : ℕ → List ℕ = λ m. if goes_on b then [] else m ∷ [] in
    go (goes_on c) (begun_last (suc at) b bs ∙ ap (λ m. begun (suc at) bs ++ last m) e)
  where
    go : (g : Bool) → begun (suc at) (bs ++ b ∷ []) ≡ begun (suc at) bs ++ (if goes_on b then [] else (at + suc (length bs)) ∷ [])
        → (if g then begun (suc at) (bs ++ b ∷ []) else at ∷ begun (suc at) (bs ++ b ∷ []))
        ≡ (if g then begun (suc at) bs else at ∷ begun (suc at) bs) ++ (if goes_on b then [] else (at + suc (length bs)) ∷ [])
    go true e = e
    go false e = ap (λ l. at ∷ l) e

back : (b : ℕ) (bs : List ℕ) → reverse (begun 0 (bs ++ b ∷ [])) ≡ reverse (if goes_on b then [] else (0 + length bs) ∷ []) ++ reverse (begun 0 bs)
back b bs = ap reverse (begun_last 0 b bs) ∙ reverse-append (begun 0 bs) (if goes_on b then [] else (0 + length bs) ∷ [])

-- the last byte of a text goes on with a code point, is the one that is sought, or is passed over
back_here : (x n : ℕ) (rest : List ℕ) → goes_on x ≡ false → slice_get (reverse (begun 0 (rest ++ x ∷ []))) n ≡ slice_get (length rest ∷ reverse (begun 0 rest)) n
back_here x n rest e =
    let z : 0 + length rest ≡ length rest = omega arith in
    ap (λ l. slice_get l n) (back x rest ∙ ap (λ v. reverse (if v then [] else (0 + length rest) ∷ []) ++ reverse (begun 0 rest)) e) ∙ ap (λ m. slice_get (m ∷ reverse (begun 0 rest)) n) z

of_front : (front rest : List ℕ) (x n : ℕ) (target : Option ℕ) → IsLastAndRest front x rest → slice_get (reverse (begun 0 front)) n ≡ target
    → slice_get (reverse (begun 0 (rest ++ x ∷ []))) n ≡ target
of_front front rest x n target is e = ap (λ l. slice_get (reverse (begun 0 l)) n) (sym is.0) ∙ e

pub back_later : (front rest : List ℕ) (x n : ℕ) (target : Option ℕ) → IsLastAndRest front x rest → goes_on x ≡ true
    → slice_get (reverse (begun 0 front)) n ≡ target → slice_get (reverse (begun 0 rest)) n ≡ target
back_later front rest x n target is g e =
    sym (ap (λ l. slice_get l n) (back x rest ∙ ap (λ v. reverse (if v then [] else (0 + length rest) ∷ []) ++ reverse (begun 0 rest)) g)) ∙ of_front front rest x n target is e

pub back_first : (front rest : List ℕ) (x n : ℕ) (target : Option ℕ) → IsLastAndRest front x rest → goes_on x ≡ false → n ≡ 0
    → slice_get (reverse (begun 0 front)) n ≡ target → Some (length rest) ≡ target
back_first front rest x n target is g z e =
    ap (λ m. slice_get (length rest ∷ reverse (begun 0 rest)) m) (sym z) ∙ sym (back_here x n rest g) ∙ of_front front rest x n target is e

pub back_next : (front rest : List ℕ) (x n : ℕ) (target : Option ℕ) → IsLastAndRest front x rest → goes_on x ≡ false → 0 < n
    → slice_get (reverse (begun 0 front)) n ≡ target → slice_get (reverse (begun 0 rest)) (n - 1) ≡ target
back_next front rest x n target is g h e =
    sym (get_later (length rest) n (reverse (begun 0 rest)) h) ∙ sym (back_here x n rest g) ∙ of_front front rest x n target is e
