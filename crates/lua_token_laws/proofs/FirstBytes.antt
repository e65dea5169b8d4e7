-- What a piece says of the bytes with which it begins, and of those behind it.
use Rattle.std.proofs.Common.{◌≡◌, ℕ, zero, suc, ◌+◌, ◌-◌, ◌<◌, ◌≤◌, ◌⊎◌, inl, inr, Bool, true, false, List, [], ◌∷◌, length, take, drop, refl, sym, ap, subst, ◌∙◌, arith, true≢false}
use Rattle.std.specs.Prelude.{Option, Some, None, Result, Ok, Err, not, nat_le, if◌then◌else◌, ◌==◌, ◌&&◌, ◌||◌}
use Rattle.std.specs.List.{prefix_len}
use Rattle.std.proofs.lemmas.Bool.{and_parts, or_cases, cases_lt, eqb-true, leb-true, cond_both, cond-true, cond-false, false_from_ne_true}
use Rattle.std.proofs.lemmas.List.{get_or-drop, drop-drop, drop_all}
use Rattle.std.proofs.lemmas.List.Sums.{prefix_len_stops}
use Rattle.lua_lexer.specs.declared.token.TokenKind.{TokenKind}
use Rattle.lua_lexer.specs.declared.token.TokenKind.TheVariants.{Name, Word, Text}
use Rattle.lua_lexer.specs.declared.token.Piece.{Piece}
use Rattle.lua_lexer.specs.WkBaseSpace.{is_white}
use Rattle.lua_lexer.specs.Lexis.{at, is_break, is_letter, is_digit, is_numeral, is_name_byte, is_quote, is_keyword, break_size, breaks_after, breaks, equals_behind, opens_long, before_closing, Body, Closed, Open, string_body, mark_size, no_token, token_piece, long_piece, long_comment, long_string, comment_of, string_of, mark_of, piece_of}
use Rattle.lua_lexer.proofs.PieceLemmas.{at_space}
use Rattle.lua_token_laws.proofs.StayLemmas.{at_break, at_hyphens}

-- ---- by the kind of a piece

-- A name begins with a letter, and what is no token is white space or begins with two hyphens.
abbrev BeginsKind : List ℕ → Option TokenKind → Type 0
BeginsKind t (Some (Name n)) = is_letter (at t 0) ≡ true
BeginsKind t None = (is_white (at t 0) ≡ true) ⊎ ((at t 0 == 45 && at t 1 == 45) ≡ true)
BeginsKind t kind = Unit {0}

abbrev BeginsPiece : List ℕ → Result Piece ℕ → Type 0
BeginsPiece t (Ok p) = BeginsKind t p.kind
BeginsPiece t (Err fault) = Unit {0}

begins_word : (t w : List ℕ) (b : Bool) → is_letter (at t 0) ≡ true → BeginsKind t (Some (if b then Word w else Name w))
begins_word t w true e = tt
begins_word t w false e = e

begins_string : (t : List ℕ) → BeginsPiece t (string_of t)
begins_string t = go (string_body (at t 0) (drop 1 t))
  where
    go : (b : Body) → BeginsPiece t (elim b as (λ x. Result Piece ℕ) [ Closed bytes size ↦ Ok (token_piece (Text bytes) (size + 1)) | Open fault ↦ Err fault ])
    go (Closed bytes size) = tt
    go (Open fault) = tt

begins_long : (t inner : List ℕ) (made : List ℕ → ℕ → Piece) (level : ℕ) → ((x : List ℕ) (n : ℕ) → BeginsKind t (made x n).kind) → BeginsPiece t (long_piece made level inner)
begins_long t inner made level h = go (before_closing level inner)
  where
    go : (o : Option ℕ) → BeginsPiece t (elim o as (λ x. Result Piece ℕ) [ None ↦ Err 2 | Some n ↦ Ok (made (take n inner) (level + 2 + n + (level + 2))) ])
    go None = tt
    go (Some n) = h (take n inner) (level + 2 + n + (level + 2))

begins : (t : List ℕ) → BeginsPiece t (piece_of t)
unfolding piece_of
begins t =
    cond_both (is_white (at t 0)) (Ok (no_token (prefix_len is_white t))) _ (BeginsPiece t) (λ e. inl e)
    (λ e. cond_both (is_letter (at t 0)) _ _ (BeginsPiece t) (λ f. begins_word t (take (prefix_len is_name_byte t) t) (is_keyword (take (prefix_len is_name_byte t) t)) f)
    (λ f. cond_both (is_numeral t) _ _ (BeginsPiece t) (λ g. tt)
    (λ g. cond_both (is_quote (at t 0)) (string_of t) _ (BeginsPiece t) (λ i. begins_string t)
    (λ i. cond_both (opens_long t) _ _ (BeginsPiece t) (λ j. begins_long t (drop (equals_behind t + 2) t) long_string (equals_behind t) (λ x n. tt))
    (λ j. cond_both (at t 0 == 45 && at t 1 == 45) (comment_of (drop 2 t)) (mark_of t) (BeginsPiece t)
    (λ k. cond_both (opens_long (drop 2 t)) _ _ (BeginsPiece t) (λ m. begins_long t (drop (equals_behind (drop 2 t) + 2) (drop 2 t)) long_comment (equals_behind (drop 2 t)) (λ x n. inr k)) (λ m. inr k))
    (λ k. cond_both (0 == mark_size t) (Err 4) _ (BeginsPiece t) (λ none. tt) (λ some. tt)))))))

-- ---- comments

pub comment_hyphens : (t : List ℕ) (size : ℕ) → piece_of t ≡ Ok (no_token size) → is_white (at t 0) ≡ false → (at t 0 == 45 && at t 1 == 45) ≡ true
comment_hyphens t size found dark = go (subst (BeginsPiece t) found (begins t))
  where
    go : (is_white (at t 0) ≡ true) ⊎ ((at t 0 == 45 && at t 1 == 45) ≡ true) → (at t 0 == 45 && at t 1 == 45) ≡ true
    go (inl white) = absurd (true≢false (sym white ∙ dark))
    go (inr hyphens) = hyphens

pub comment_first : (t : List ℕ) (size : ℕ) → piece_of t ≡ Ok (no_token size) → is_white (at t 0) ≡ false → at t 0 ≡ 45
comment_first t size found dark = eqb-true _ _ (and_parts (at t 0 == 45) (at t 1 == 45) (comment_hyphens t size found dark)).0

-- What a piece is, and its size.
abbrev pub kind_at : Result Piece ℕ → Option TokenKind
kind_at (Ok p) = p.kind
kind_at (Err fault) = None

abbrev size_in : Result Piece ℕ → ℕ
size_in (Ok p) = p.size
size_in (Err fault) = fault

-- Behind a comment to the end of its line the text ends, or a line break stands.
pub line_end : (t : List ℕ) (size : ℕ) → piece_of t ≡ Ok (no_token size) → is_white (at t 0) ≡ false → opens_long (drop 2 t) ≡ false → (drop size t ≡ []) ⊎ (is_break (at (drop size t) 0) ≡ true)
line_end t size found dark opens =
    let x : List ℕ = drop 2 t in
    let other : ℕ → Bool = λ (c : ℕ). not (is_break c) in
    let run : ℕ = prefix_len other x in
    let comment : comment_of x ≡ Ok (no_token (2 + run)) = cond-false _ _ _ opens in
    let same : size ≡ 2 + run = ap size_in (sym found ∙ at_hyphens t (comment_hyphens t size found dark) ∙ comment) in
    let behind : drop size t ≡ drop run x = ap (λ (n : ℕ). drop n t) same ∙ sym (drop-drop run 2 t) in
    subst (λ (u : List ℕ). (u ≡ []) ⊎ (is_break (at u 0) ≡ true)) (sym behind) (ended x run refl (cases_lt run (length x)))
  where
    not_false : (b : Bool) → not b ≡ false → b ≡ true
    not_false true e = refl
    not_false false e = absurd cc

    ended : (x : List ℕ) (run : ℕ) → run ≡ prefix_len (λ c. not (is_break c)) x → (run < length x) ⊎ (length x ≤ run) → (drop run x ≡ []) ⊎ (is_break (at (drop run x) 0) ≡ true)
    ended x run e (inl lt) =
        let there : prefix_len (λ c. not (is_break c)) x < length x = omega (arith, lt, e) in
        let stops : not (is_break (at x run)) ≡ false = ap (λ (n : ℕ). not (is_break (at x n))) e ∙ prefix_len_stops (λ c. not (is_break c)) x 256 there in
        let none : run + 0 ≡ run = omega arith in
        inr (ap is_break (get_or-drop run x 0 256 ∙ ap (at x) none) ∙ not_false (is_break (at x run)) stops)
    ended x run e (inr past) = inl (drop_all run x past)

-- ---- tokens

pub name_first : (t n : List ℕ) (size : ℕ) → piece_of t ≡ Ok (token_piece (Name n) size) → is_letter (at t 0) ≡ true
name_first t n size found = subst (BeginsPiece t) found (begins t)

pub token_dark : (t : List ℕ) (kind : TokenKind) (size : ℕ) → piece_of t ≡ Ok (token_piece kind size) → is_white (at t 0) ≡ false
token_dark t kind size found = false_from_ne_true _ (λ white. wrong (sym (at_space t white) ∙ found))
  where
    wrong : ◌≡◌ {A = Result Piece ℕ} (Ok (no_token (prefix_len is_white t))) (Ok (token_piece kind size)) → ⊥
    wrong e = let kinds : ◌≡◌ {A = Option TokenKind} None (Some kind) = ap kind_at e in absurd cc

letter_high : (c : ℕ) → is_letter c ≡ true → 65 ≤ c
letter_high c e = go (or_cases (nat_le 97 c && nat_le c 122) _ e)
  where
    high : ((nat_le 65 c && nat_le c 90) ≡ true) ⊎ ((c == 95) ≡ true) → 65 ≤ c
    high (inl f) = leb-true 65 c (and_parts (nat_le 65 c) (nat_le c 90) f).0
    high (inr f) = let same : c ≡ 95 = eqb-true c 95 f in omega (arith, same)

    go : ((nat_le 97 c && nat_le c 122) ≡ true) ⊎ (((nat_le 65 c && nat_le c 90) || (c == 95)) ≡ true) → 65 ≤ c
    go (inl f) = let low : 97 ≤ c = leb-true 97 c (and_parts (nat_le 97 c) (nat_le c 122) f).0 in omega (arith, low)
    go (inr f) = high (or_cases (nat_le 65 c && nat_le c 90) _ f)

-- A letter is neither a point nor a digit.
pub letter_plain : (c : ℕ) → is_letter c ≡ true → ((c == 46) ≡ false) × (is_digit c ≡ false)
letter_plain c e =
    let high : 65 ≤ c = letter_high c e in (
      false_from_ne_true _ (λ f. let same : c ≡ 46 = eqb-true c 46 f in absurd (omega (arith, same, high))),
      false_from_ne_true _ (λ f. let low : c ≤ 57 = leb-true c 57 (and_parts (nat_le 48 c) (nat_le c 57) f).1 in absurd (omega (arith, low, high))),
    )

-- ---- white space

pub break_white : (c : ℕ) → is_break c ≡ true → is_white c ≡ true
break_white c e = at_break (λ (b : ℕ). is_white b ≡ true) c refl refl e

-- It goes on as far as it can.
pub dark_behind : (t : List ℕ) (size : ℕ) → piece_of t ≡ Ok (no_token size) → is_white (at t 0) ≡ true → is_white (at (drop size t) 0) ≡ false
dark_behind t size found white =
    let same : size ≡ prefix_len is_white t = ap size_in (sym found ∙ at_space t white) in
    go same (cases_lt size (length t))
  where
    go : size ≡ prefix_len is_white t → (size < length t) ⊎ (length t ≤ size) → is_white (at (drop size t) 0) ≡ false
    go e (inl lt) =
        let there : prefix_len is_white t < length t = omega (arith, lt, e) in
        let none : size + 0 ≡ size = omega arith in
        ap is_white (get_or-drop size t 0 256 ∙ ap (at t) none) ∙ ap (λ (n : ℕ). is_white (at t n)) e ∙ prefix_len_stops is_white t 256 there
    go e (inr past) = ap (λ (u : List ℕ). is_white (at u 0)) (drop_all size t past)

-- A line break in front is counted.
pub some_breaks : (t : List ℕ) (size : ℕ) → 0 < length t → 0 < size → is_break (at t 0) ≡ true → 0 < breaks (take size t)
unfolding breaks
some_breaks [] size h some e = absurd (omega (arith, h))
some_breaks (c ∷ cs) zero h some e = absurd (omega (arith, some))
some_breaks (c ∷ cs) (suc n) h some e =
    let count : breaks_after 0 (c ∷ take n cs) ≡ suc (breaks_after (break_size (c ∷ take n cs) - 1) (take n cs)) = cond-true _ _ _ e in
    omega (arith, count)
