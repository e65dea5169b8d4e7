-- Copies of a text.
use Rattle.std.proofs.Common.{◌≡◌, ℕ, zero, suc, ◌+◌, ◌-◌, ◌*◌, ◌^◌, ◌<◌, min, List, [], ◌∷◌, ◌++◌, length, refl, sym, ap, ◌∙◌, arith, append_assoc, length-append}
use Rattle.lua_string.specs.Texts.{copies, saturated}

pub copies_more : (made new whole s : List ℕ) (count turn : ℕ) → new ≡ made ++ s → turn < count → made ++ copies (count - turn) s ≡ whole → new ++ copies (count - (turn + 1)) s ≡ whole
copies_more made new whole s count turn e lt is =
    let k : suc (count - (turn + 1)) ≡ count - turn = omega (arith, lt) in
    ap (λ l. l ++ copies (count - (turn + 1)) s) e ∙ append_assoc made s (copies (count - (turn + 1)) s) ∙ ap (λ n. made ++ copies n s) k ∙ is

nothing : (n : ℕ) → copies n [] ≡ []
nothing zero = refl
nothing (suc n) = nothing n

pub copies_none : (s : List ℕ) (n : ℕ) → length s ≡ 0 → [] ≡ copies n s
copies_none [] n e = sym (nothing n)
copies_none (b ∷ bs) n e = absurd (omega (arith, e))

lengths : (n : ℕ) (s : List ℕ) → length (copies n s) ≡ length s * n
lengths zero s = omega arith
lengths (suc n) s = let e : length (copies n s) ≡ length s * n = lengths n s in length-append s (copies n s) ∙ grind (arith, e)

pub copies_length : (n : ℕ) (s : List ℕ) → min (length s * n) (2 ^ 64 - 1) ≡ saturated (length (copies n s))
copies_length n s = ap saturated (sym (lengths n s))
