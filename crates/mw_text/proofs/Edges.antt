-- The code points at both ends of a text, and the place behind one.
use Rattle.std.proofs.Common.{◌≡◌, ℕ, ◌+◌, List, [], ◌∷◌, ◌++◌, length, take, drop, reverse, chars, encode_utf8, IsUtf8, sym, ap, subst, ◌∙◌, arith, append-nil, length-append}
use Rattle.std.specs.Str.{IsCharBoundary}
use Rattle.std.proofs.lemmas.List.{reverse-append, nil_from_length}
use Rattle.std.proofs.lemmas.Str.{IsUtf8-drop, IsCharBoundary-from_take, chars-append, chars_past_char, chars-nil}
use Rattle.std.proofs.Math.Seq.{drop-append_seam, take-append_seam}
use Rattle.mw_ustring.specs.LuaPatternLetters.{Symbol}
use Rattle.mw_ustring.specs.LuaPatternTexts.{points}
use Rattle.mw_ustring.specs.LuaPatternKeeps.{points_keep}

pub none_left : (text : List ℕ) → length text ≡ 0 → chars text ≡ []
none_left text e = ap chars (nil_from_length text e) ∙ chars-nil

-- what is left of a text behind a part of it that is a text
last_text : (text front : List ℕ) (c : ℕ) → IsUtf8 text → IsUtf8 front → text ≡ front ++ encode_utf8 c → IsUtf8 (encode_utf8 c)
last_text text front c u v e =
    let n = length front in
    let l : length text ≡ n + length (encode_utf8 c) = ap length e ∙ length-append front (encode_utf8 c) in
    let same : take n text ≡ front = ap (take n) e ∙ take-append_seam front (encode_utf8 c) in
    let b : IsCharBoundary text n = IsCharBoundary-from_take text n u (omega (arith, l)) (subst (λ (x : List ℕ). IsUtf8 x) (sym same) v) in
    let rest : drop n text ≡ encode_utf8 c = ap (drop n) e ∙ drop-append_seam front (encode_utf8 c) in
    subst (λ (x : List ℕ). IsUtf8 x) rest (IsUtf8-drop text n u b)

one_point : (c : ℕ) → IsUtf8 (encode_utf8 c) → chars (encode_utf8 c) ≡ c ∷ []
one_point c u = chars_past_char (encode_utf8 c) [] c u (sym (append-nil (encode_utf8 c))) ∙ ap (λ l. c ∷ l) chars-nil

pub last_is : (text front : List ℕ) (c : ℕ) → IsUtf8 text → IsUtf8 front → text ≡ front ++ encode_utf8 c → reverse (chars text) ≡ c ∷ reverse (chars front)
last_is text front c u v e =
    ap (λ t. reverse (chars t)) e ∙ ap reverse (chars-append front (encode_utf8 c) v ∙ ap (λ l. chars front ++ l) (one_point c (last_text text front c u v e)))
    ∙ reverse-append (chars front) (c ∷ [])

-- behind a code point is a place again
pub step_boundary : (s : List ℕ) (place size code : ℕ) (cs : List Symbol) → IsUtf8 s → IsCharBoundary s place
    → points.symbols (drop place s) ≡ record { code = code; size = size } ∷ cs → IsCharBoundary s (place + size)
step_boundary s place size code cs u b e = (points_keep s u).step place (record { code = code; size = size }) cs b e
