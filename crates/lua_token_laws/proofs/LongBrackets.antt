-- Long brackets and comments (manual 2.1) that stay the same in front of other bytes.
use Rattle.std.proofs.Common.{◌≡◌, ℕ, suc, ◌+◌, ◌-◌, ◌<◌, ◌≤◌, ◌⊎◌, inl, inr, true, false, List, [], ◌∷◌, ◌++◌, length, take, drop, refl, sym, ap, subst, ◌∙◌, arith, length-drop, true≢false}
use Rattle.std.specs.Prelude.{Option, Some, None, Result, Ok, Err, ◌==◌, ◌&&◌}
use Rattle.std.specs.List.{prefix_len}
use Rattle.std.proofs.lemmas.Bool.{and_parts, cases_lt, eqb-true, cond_both, cond-true, cond-false}
use Rattle.std.proofs.lemmas.List.{take-append-le, take-take, length-take-le}
use Rattle.std.proofs.lemmas.List.Sums.{prefix_len_passes}
use Rattle.lua_lexer.specs.declared.token.Piece.{Piece}
use Rattle.lua_lexer.specs.Lexis.{at, is_equals, equals_behind, opens_long, closes_long, one_later, before_closing, long_piece}
use Rattle.lua_token_laws.proofs.SizeLemmas.{inside, closing_inside}
use Rattle.lua_token_laws.proofs.RunLemmas.{at_front, drop_front, run_inside}

-- ---- closing brackets

-- Whether a bracket closes hangs on the bytes up to its end.
closes_same : (level j : ℕ) (t r : List ℕ) → j ≤ length t → level + 1 < j → equals_behind t + 1 < j → closes_long level (take j t ++ r) ≡ closes_long level t
closes_same level j t r h le run =
    let left : length (drop 1 t) ≡ length t - 1 = length-drop 1 t in
    let behind : drop 1 (take j t ++ r) ≡ take (j - 1) (drop 1 t) ++ r = drop_front 1 j t r (omega (arith, le)) h in
    let equals : equals_behind (take j t ++ r) ≡ equals_behind t = ap (prefix_len is_equals) behind ∙ run_inside is_equals (j - 1) (drop 1 t) r (omega (arith, left, h)) (omega (arith, run)) in
    ap (λ (c : ℕ). (c == 93) && (equals_behind (take j t ++ r) == level && at (take j t ++ r) (level + 1) == 93)) (at_front j t r 0 h (omega (arith, le)))
    ∙ ap (λ (n : ℕ). (at t 0 == 93) && (n == level && at (take j t ++ r) (level + 1) == 93)) equals
    ∙ ap (λ (c : ℕ). (at t 0 == 93) && (equals_behind t == level && c == 93)) (at_front j t r (level + 1) h le)

byte_later : (level c : ℕ) (cs : List ℕ) (n : ℕ) (o : Option ℕ) → ((m : ℕ) → o ≡ Some m → at cs m ≡ 93) → one_later o ≡ Some n → at (c ∷ cs) n ≡ 93
byte_later level c cs n None h e = absurd cc
byte_later level c cs n (Some m) h e = let same : suc m ≡ n = cc in subst (λ (k : ℕ). at (c ∷ cs) k ≡ 93) same (h m refl)

-- The byte where the first closing bracket begins.
closing_byte : (level : ℕ) (t : List ℕ) (n : ℕ) → before_closing level t ≡ Some n → at t n ≡ 93
closing_byte level [] n e = absurd cc
closing_byte level (c ∷ cs) n e =
    cond_both (closes_long level (c ∷ cs)) (Some 0) (one_later (before_closing level cs)) (λ (o : Option ℕ). o ≡ Some n → at (c ∷ cs) n ≡ 93)
    (λ closes found. let none : 0 ≡ n = cc in subst (λ (k : ℕ). at (c ∷ cs) k ≡ 93) none (eqb-true _ _ (and_parts _ _ closes).0))
    (λ goes_on found. byte_later level c cs n (before_closing level cs) (λ m f. closing_byte level cs m f) found)
    e

-- A run of = ends before it.
equals_before : (level : ℕ) (t : List ℕ) (n : ℕ) → before_closing level t ≡ Some n → prefix_len is_equals t ≤ n
equals_before level t n e = go (cases_lt n (prefix_len is_equals t))
  where
    go : (n < prefix_len is_equals t) ⊎ (prefix_len is_equals t ≤ n) → prefix_len is_equals t ≤ n
    go (inr h) = h
    go (inl h) =
        let equals : is_equals (at t n) ≡ true = prefix_len_passes is_equals t n 256 h in
        let bracket : is_equals (at t n) ≡ false = ap is_equals (closing_byte level t n e) in
        absurd (true≢false (sym equals ∙ bracket))

-- The first closing bracket of a level stays the first.
closing_first : (level c : ℕ) (cs r : List ℕ) → closes_long level (c ∷ cs) ≡ true → before_closing level (take (0 + level + 2) (c ∷ cs) ++ r) ≡ Some 0
closing_first level c cs r closes =
    let both : (equals_behind (c ∷ cs) == level && at (c ∷ cs) (level + 1) == 93) ≡ true = (and_parts _ _ closes).1 in
    let last : level + 1 < length (c ∷ cs) = inside (c ∷ cs) (level + 1) 93 (omega arith) (and_parts _ _ both).1 in
    let run : equals_behind (c ∷ cs) ≡ level = eqb-true _ _ (and_parts _ _ both).0 in
    let size : 0 + level + 2 ≡ suc (suc level) = omega arith in
    let same : closes_long level (take (suc (suc level)) (c ∷ cs) ++ r) ≡ closes_long level (c ∷ cs) = closes_same level (suc (suc level)) (c ∷ cs) r (omega (arith, last)) (omega arith) (omega (arith, run)) in
    ap (λ (k : ℕ). before_closing level (take k (c ∷ cs) ++ r)) size ∙ cond-true _ _ _ (same ∙ closes)

closing_next : (level m c : ℕ) (cs r : List ℕ) → closes_long level (c ∷ cs) ≡ false → before_closing level cs ≡ Some m → before_closing level (take (m + level + 2) cs ++ r) ≡ Some m → before_closing level (take (suc m + level + 2) (c ∷ cs) ++ r) ≡ Some (suc m)
closing_next level m c cs r goes_on found later =
    let fits : m + level + 2 ≤ length cs = closing_inside level cs m found in
    let run : prefix_len is_equals cs ≤ m = equals_before level cs m found in
    let size : suc m + level + 2 ≡ suc (m + level + 2) = omega arith in
    let same : closes_long level (take (suc (m + level + 2)) (c ∷ cs) ++ r) ≡ closes_long level (c ∷ cs) = closes_same level (suc (m + level + 2)) (c ∷ cs) r (omega (arith, fits)) (omega arith) (omega (arith, run)) in
    ap (λ (k : ℕ). before_closing level (take k (c ∷ cs) ++ r)) size ∙ cond-false _ _ _ (same ∙ goes_on) ∙ ap one_later later

closing_later : (level c : ℕ) (cs r : List ℕ) (n : ℕ) (o : Option ℕ) → closes_long level (c ∷ cs) ≡ false → before_closing level cs ≡ o → ((m : ℕ) → before_closing level cs ≡ Some m → before_closing level (take (m + level + 2) cs ++ r) ≡ Some m) → one_later o ≡ Some n → before_closing level (take (n + level + 2) (c ∷ cs) ++ r) ≡ Some n
closing_later level c cs r n None goes_on f stays e = absurd cc
closing_later level c cs r n (Some m) goes_on f stays e =
    let same : suc m ≡ n = cc in
    subst (λ (k : ℕ). before_closing level (take (k + level + 2) (c ∷ cs) ++ r) ≡ Some k) same (closing_next level m c cs r goes_on f (stays m f))

pub closing_stays : (level : ℕ) (t r : List ℕ) (n : ℕ) → before_closing level t ≡ Some n → before_closing level (take (n + level + 2) t ++ r) ≡ Some n
closing_stays level [] r n e = absurd cc
closing_stays level (c ∷ cs) r n e =
    cond_both (closes_long level (c ∷ cs)) (Some 0) (one_later (before_closing level cs)) (λ (o : Option ℕ). o ≡ Some n → before_closing level (take (n + level + 2) (c ∷ cs) ++ r) ≡ Some n)
    (λ closes found. let none : 0 ≡ n = cc in subst (λ (k : ℕ). before_closing level (take (k + level + 2) (c ∷ cs) ++ r) ≡ Some k) none (closing_first level c cs r closes))
    (λ goes_on found. closing_later level c cs r n (before_closing level cs) goes_on refl (λ m f. closing_stays level cs r m f) found)
    e

-- ---- opening brackets

-- How far an opening bracket goes.
opening_inside : (t : List ℕ) → opens_long t ≡ true → equals_behind t + 1 < length t
opening_inside t e = inside t (equals_behind t + 1) 91 (omega arith) (and_parts _ _ e).1

-- It stays one, with as many =, where at least its own bytes are there.
equals_stay : (j : ℕ) (t r : List ℕ) → j ≤ length t → equals_behind t + 1 < j → equals_behind (take j t ++ r) ≡ equals_behind t
equals_stay j t r h run =
    let left : length (drop 1 t) ≡ length t - 1 = length-drop 1 t in
    let behind : drop 1 (take j t ++ r) ≡ take (j - 1) (drop 1 t) ++ r = drop_front 1 j t r (omega (arith, run)) h in
    ap (prefix_len is_equals) behind ∙ run_inside is_equals (j - 1) (drop 1 t) r (omega (arith, left, h)) (omega (arith, run))

pub opens_same : (j : ℕ) (t r : List ℕ) → j ≤ length t → equals_behind t + 1 < j → opens_long (take j t ++ r) ≡ opens_long t
opens_same j t r h run =
    ap (λ (c : ℕ). (c == 91) && (at (take j t ++ r) (equals_behind (take j t ++ r) + 1) == 91)) (at_front j t r 0 h (omega (arith, run)))
    ∙ ap (λ (n : ℕ). (at t 0 == 91) && (at (take j t ++ r) (n + 1) == 91)) (equals_stay j t r h run)
    ∙ ap (λ (c : ℕ). (at t 0 == 91) && (c == 91)) (at_front j t r (equals_behind t + 1) h run)

-- ---- long brackets

-- A long bracket that ends stays the same.
module _ (made : List ℕ → ℕ → Piece) (t r : List ℕ) where
  abbrev inner : List ℕ
  inner = drop (equals_behind t + 2) t

  abbrev whole : ℕ → ℕ
  whole n = equals_behind t + 2 + n + (equals_behind t + 2)

  pub long_stays : (n : ℕ) → opens_long t ≡ true → before_closing (equals_behind t) inner ≡ Some n → long_piece made (equals_behind (take (whole n) t ++ r)) (drop (equals_behind (take (whole n) t ++ r) + 2) (take (whole n) t ++ r)) ≡ Ok (made (take n inner) (whole n))
  long_stays n opens found =
      let level : ℕ = equals_behind t in
      let fits : n + level + 2 ≤ length inner = closing_inside level inner n found in
      let left : length inner ≡ length t - (level + 2) = length-drop (level + 2) t in
      let inside_t : whole n ≤ length t = omega (arith, fits, left) in
      let same : equals_behind (take (whole n) t ++ r) ≡ level = equals_stay (whole n) t r inside_t (omega arith) in
      let rest : whole n - (level + 2) ≡ n + level + 2 = omega arith in
      let behind : drop (level + 2) (take (whole n) t ++ r) ≡ take (n + level + 2) inner ++ r = drop_front (level + 2) (whole n) t r (omega arith) inside_t ∙ ap (λ (k : ℕ). take k inner ++ r) rest in
      let closing : before_closing level (take (n + level + 2) inner ++ r) ≡ Some n = closing_stays level inner r n found in
      let size : length (take (n + level + 2) inner) ≡ n + level + 2 = length-take-le (n + level + 2) inner fits in
      let text : take n (take (n + level + 2) inner ++ r) ≡ take n inner = take-append-le n (take (n + level + 2) inner) r (omega (arith, size)) ∙ take-take n (n + level + 2) inner (omega arith) in
      ap (λ (k : ℕ). long_piece made k (drop (k + 2) (take (whole n) t ++ r))) same
      ∙ ap (long_piece made level) behind
      ∙ ap (λ (o : Option ℕ). elim o as (λ x. Result Piece ℕ) [ None ↦ Err 2 | Some m ↦ Ok (made (take m (take (n + level + 2) inner ++ r)) (level + 2 + m + (level + 2))) ]) closing
      ∙ ap (λ (x : List ℕ). Ok (made x (whole n))) text
