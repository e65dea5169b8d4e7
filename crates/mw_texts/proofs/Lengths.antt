-- How long the texts are that `decode` and `nowiki` make, piece by piece.
use Rattle.std.proofs.Common.{◌≡◌, ◌∙◌, ap, sym, subst, refl, ℕ, ◌+◌, ◌<◌, ◌≤◌, Bool, true, false, if◌then◌else◌, [], ◌∷◌, length, drop, length-append, ⊎_elim}
use Rattle.std.specs.Prelude.{nat_lt, ◌==◌, ◌||◌}
use Rattle.std.specs.Fmt.{digits}
use Rattle.std.proofs.lemmas.Bool.{eqb-true, or_cases, lt-ltb, le-ltb}
use Rattle.mw_ustrings.specs.LuaMeaningScope.{Bytes}
use Rattle.mw_text.specs.Decode.{head, decoded}
use Rattle.mw_text.specs.References.{numbered, is_markup, nowiki_byte, nowiki_of}
use Rattle.mw_text.proofs.Pieces.{decode_on}

-- ---- decode

pub decoded_on : (b : ℕ) (behind rest more : Bytes) → rest ≡ b ∷ behind → more ≡ drop (head b behind).1 behind → length (decoded rest) ≡ length (head b behind).0 + length (decoded more)
decoded_on b behind rest more e m =
    let made = (head b behind).0 in
    ap length (sym (decode_on b behind rest [] made more (decoded rest) e refl m refl)) ∙ length-append made (decoded more)

-- ---- nowiki

pub nowiki_on : (b : ℕ) (behind rest : Bytes) → rest ≡ b ∷ behind → length (nowiki_of rest) ≡ length (nowiki_byte b) + length (nowiki_of behind)
nowiki_on b behind rest e = ap (λ bs. length (nowiki_of bs)) e ∙ length-append (nowiki_byte b) (nowiki_of behind)

-- a reference has two digits or three
abbrev IsSized : ℕ → Type 0
IsSized b = (if nat_lt b 100 then 5 else 6) ≡ length (numbered b)

one_of : (n b : ℕ) (others : Bool) → IsSized n → (others ≡ true → IsSized b) → (others || (b == n)) ≡ true → IsSized b
one_of n b others here there h = ⊎_elim there (λ e. subst IsSized (sym (eqb-true b n e)) here) (or_cases others (b == n) h)

markup_sized : (b : ℕ) → is_markup b ≡ true → IsSized b
unfolding numbered digits
markup_sized b =
    one_of 125 b _ refl (one_of 124 b _ refl (one_of 123 b _ refl (one_of 93 b _ refl (one_of 91 b _ refl (one_of 62 b _ refl (one_of 61 b _ refl
    (one_of 60 b _ refl (one_of 39 b _ refl (one_of 38 b _ refl (λ e. subst IsSized (sym (eqb-true b 34 e)) refl))))))))))

written : (b : ℕ) (markup : Bool) → is_markup b ≡ markup → length (if markup then numbered b else b ∷ []) ≡ length (nowiki_byte b)
written b markup e = ap (λ t. length (if t then numbered b else b ∷ [])) (sym e)

pub stays : (b : ℕ) → is_markup b ≡ false → 1 ≡ length (nowiki_byte b)
stays b e = written b false e

pub two_digits : (b : ℕ) → is_markup b ≡ true → b < 100 → 5 ≡ length (nowiki_byte b)
two_digits b e lt = sym (ap (λ t. if t then 5 else 6) (lt-ltb b 100 lt)) ∙ markup_sized b e ∙ written b true e

pub three_digits : (b : ℕ) → is_markup b ≡ true → 100 ≤ b → 6 ≡ length (nowiki_byte b)
three_digits b e le = sym (ap (λ t. if t then 5 else 6) (le-ltb b 100 le)) ∙ markup_sized b e ∙ written b true e
