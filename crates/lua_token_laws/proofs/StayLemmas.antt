-- A piece stays the same in front of other bytes, where the first of these can't go on with it.
use Rattle.std.proofs.Common.{◌≡◌, ℕ, zero, suc, ◌+◌, ◌-◌, ◌<◌, ◌≤◌, ◌⊎◌, inl, inr, Bool, true, false, List, [], ◌∷◌, ◌++◌, length, take, drop, refl, sym, ap, subst, ◌∙◌, arith, length-drop, true≢false}
use Rattle.std.specs.Prelude.{Some, Result, Ok, Err, not, if◌then◌else◌, ◌==◌, ◌&&◌, ◌||◌}
use Rattle.std.specs.List.{prefix_len}
use Rattle.std.proofs.lemmas.Bool.{and_parts, or_cases, cases_lt, eqb-true, ne_eqb, cond_both, cond-true, cond-false, and_left, and_right, or_from, or_left, or_right}
use Rattle.std.proofs.lemmas.List.{get_or-drop}
use Rattle.std.proofs.lemmas.List.Sums.{prefix_len-le-length, prefix_len_passes, prefix_len_stops}
use Rattle.lua_lexer.specs.declared.token.TokenKind.TheVariants.{Mark, Number, Text}
use Rattle.lua_lexer.specs.declared.token.Piece.{Piece}
use Rattle.lua_lexer.specs.WkBaseSpace.{is_white}
use Rattle.lua_lexer.specs.Lexis.{at, is_break, is_letter, is_digit, is_numeral, is_name_byte, is_number_byte, is_quote, is_single, is_equals, equals_behind, opens_long, before_closing, Body, Closed, Open, string_body, word_kind, numeral_size, mark_size, no_token, token_piece, long_comment, long_string, comment_of, piece_of}
use Rattle.lua_lexer.proofs.PieceLemmas.{at_letter, at_numeral, at_quote, at_bracket, at_comment, at_mark, prefix_positive, numeral_positive}
use Rattle.lua_token_laws.specs.Pieces.{ends_exponent, ends_mark}
use Rattle.lua_token_laws.proofs.SizeLemmas.{inside, numeral_inside, string_short, Short, closing_inside}
use Rattle.lua_token_laws.proofs.RunLemmas.{at_front, at_behind, drop_front, take_front, run_ended, numeral_stays, string_stays}
use Rattle.lua_token_laws.proofs.LongBrackets.{opens_same, long_stays}

-- The first byte stays.
first_stays : (test : ℕ → Bool) (b : Bool) (n : ℕ) (t r : List ℕ) → 0 < n → n ≤ length t → test (at t 0) ≡ b → test (at (take n t ++ r) 0) ≡ b
first_stays test b n t r some h e = ap test (at_front n t r 0 h some) ∙ e

-- ---- words

pub word_stays : (t r : List ℕ) → 0 < length t → is_white (at t 0) ≡ false → is_letter (at t 0) ≡ true → is_name_byte (at r 0) ≡ false → piece_of (take (prefix_len is_name_byte t) t ++ r) ≡ Ok (token_piece (word_kind (take (prefix_len is_name_byte t) t)) (prefix_len is_name_byte t))
word_stays t r h w l ends =
    let n : ℕ = prefix_len is_name_byte t in
    let some : 0 < n = prefix_positive is_name_byte t h (or_left _ _ l) in
    let whole : n ≤ length t = prefix_len-le-length is_name_byte t in
    let run : prefix_len is_name_byte (take n t ++ r) ≡ n = run_ended is_name_byte n t r whole refl ends in
    at_letter (take n t ++ r) (first_stays is_white false n t r some whole w) (first_stays is_letter true n t r some whole l)
    ∙ ap (λ (k : ℕ). Ok (token_piece (word_kind (take k (take n t ++ r))) k)) run
    ∙ ap (λ (x : List ℕ). Ok (token_piece (word_kind x) n)) (take_front n t r whole)

-- ---- numerals

-- A numeral that begins with a point has a digit behind it.
two_numbers : (t : List ℕ) → is_number_byte (at t 0) ≡ true → is_number_byte (at t 1) ≡ true → 2 ≤ prefix_len is_number_byte t
two_numbers [] e f = absurd cc
two_numbers (a ∷ []) e f = absurd cc
two_numbers (a ∷ b ∷ rest) e f =
    let one : prefix_len is_number_byte (a ∷ b ∷ rest) ≡ 1 + prefix_len is_number_byte (b ∷ rest) = cond-true _ _ _ e in
    let two : prefix_len is_number_byte (b ∷ rest) ≡ 1 + prefix_len is_number_byte rest = cond-true _ _ _ f in
    omega (arith, one, two)

pub digits_inside : (t : List ℕ) → prefix_len is_number_byte t ≤ numeral_size t
unfolding numeral_size
digits_inside t = omega arith

or_second : (x y : Bool) → x ≡ false → (x || y) ≡ true → y ≡ true
or_second true y f g = absurd cc
or_second false y f g = g

numeral_begins : (t r : List ℕ) (n : ℕ) → 0 < n → n ≤ length t → (is_numeral t ≡ true → is_digit (at t 0) ≡ false → 1 < n) → is_numeral t ≡ true → is_numeral (take n t ++ r) ≡ true
numeral_begins t r n some whole two e =
    cond_both (is_digit (at t 0)) true ((at t 0 == 46) && is_digit (at t 1)) (λ (b : Bool). b ≡ true → is_numeral (take n t ++ r) ≡ true)
    (λ digit x. or_left _ _ (first_stays is_digit true n t r some whole digit))
    (λ point x.
    let more : 1 < n = two e point in
    let second : at (take n t ++ r) 1 ≡ at t 1 = at_front n t r 1 whole more in
    ap (λ (a : ℕ). is_digit a || ((a == 46) && is_digit (at (take n t ++ r) 1))) (at_front n t r 0 whole some) ∙ ap (λ (b : ℕ). is_digit (at t 0) || ((at t 0 == 46) && is_digit b)) second ∙ e)
    (as_cond (is_digit (at t 0)) ((at t 0 == 46) && is_digit (at t 1)) e)
  where
    as_cond : (x y : Bool) → (x || y) ≡ true → (if x then true else y) ≡ true
    as_cond true y h = refl
    as_cond false y h = h

-- The bytes that end a numeral.
abbrev pub ends_numeral : ℕ → Type 0
ends_numeral c = (is_number_byte c ≡ false) × ends_exponent c × (is_name_byte c ≡ false)

pub number_stays : (t r : List ℕ) → 0 < length t → is_white (at t 0) ≡ false → is_letter (at t 0) ≡ false → is_numeral t ≡ true → ends_numeral (at r 0) → piece_of (take (numeral_size t) t ++ r) ≡ Ok (token_piece (Number (take (numeral_size t) t)) (numeral_size t))
number_stays t r h w l e ends =
    let n : ℕ = numeral_size t in
    let some : 0 < n = numeral_positive t h e in
    let whole : n ≤ length t = numeral_inside t in
    let size : numeral_size (take n t ++ r) ≡ n = numeral_stays t r ends.0 ends.1 ends.2 in
    at_numeral (take n t ++ r) (first_stays is_white false n t r some whole w) (first_stays is_letter false n t r some whole l) (numeral_begins t r n some whole point e)
    ∙ ap (λ (k : ℕ). Ok (token_piece (Number (take k (take n t ++ r))) k)) size
    ∙ ap (λ (x : List ℕ). Ok (token_piece (Number x) n)) (take_front n t r whole)
  where
    point : is_numeral t ≡ true → is_digit (at t 0) ≡ false → 1 < numeral_size t
    point e none =
        let both : ((at t 0 == 46) && is_digit (at t 1)) ≡ true = or_second (is_digit (at t 0)) ((at t 0 == 46) && is_digit (at t 1)) none e in
        let two : 2 ≤ prefix_len is_number_byte t = two_numbers t (or_right (is_digit (at t 0)) (at t 0 == 46) (and_parts (at t 0 == 46) (is_digit (at t 1)) both).0) (or_left (is_digit (at t 1)) (at t 1 == 46) (and_parts (at t 0 == 46) (is_digit (at t 1)) both).1) in
        let more : prefix_len is_number_byte t ≤ numeral_size t = digits_inside t in
        omega (arith, two, more)

-- ---- strings

-- A quote is no sign of a number.
quote_no_numeral : (t : List ℕ) → is_quote (at t 0) ≡ true → is_numeral t ≡ false
quote_no_numeral t q = go (or_cases _ _ q)
  where
    by : (c : ℕ) → at t 0 ≡ c → is_digit c ≡ false → (c == 46) ≡ false → is_numeral t ≡ false
    by c e d p = ap (λ (a : ℕ). is_digit a || ((a == 46) && is_digit (at t 1))) e ∙ or_from _ _ d (and_left _ _ p)

    go : ((at t 0 == 34) ≡ true) ⊎ ((at t 0 == 39) ≡ true) → is_numeral t ≡ false
    go (inl h) = by 34 (eqb-true _ _ h) refl refl
    go (inr h) = by 39 (eqb-true _ _ h) refl refl

pub quoted_stays : (t r bytes : List ℕ) (size : ℕ) → 0 < length t → is_white (at t 0) ≡ false → is_letter (at t 0) ≡ false → is_quote (at t 0) ≡ true → string_body (at t 0) (drop 1 t) ≡ Closed bytes size → piece_of (take (size + 1) t ++ r) ≡ Ok (token_piece (Text bytes) (size + 1))
quoted_stays t r bytes size h w l q body =
    let n : ℕ = size + 1 in
    let left : length (drop 1 t) ≡ length t - 1 = length-drop 1 t in
    let fits : size ≤ length (drop 1 t) = (subst (Short (length (drop 1 t))) body (string_short (at t 0) (drop 1 t))).1 in
    let whole : n ≤ length t = omega (arith, left, fits, h) in
    let u : List ℕ = take n t ++ r in
    let quote : is_quote (at u 0) ≡ true = first_stays is_quote true n t r (omega arith) whole q in
    let behind : drop 1 u ≡ take (n - 1) (drop 1 t) ++ r = drop_front 1 n t r (omega arith) whole in
    let size_is : n - 1 ≡ size = omega arith in
    let stays : string_body (at t 0) (take size (drop 1 t) ++ r) ≡ Closed bytes size = string_stays (at t 0) (drop 1 t) r bytes size body in
    at_quote u (first_stays is_white false n t r (omega arith) whole w) (first_stays is_letter false n t r (omega arith) whole l) (quote_no_numeral u quote) quote
    ∙ ap (λ (b : Body). elim b as (λ x. Result Piece ℕ) [ Closed made k ↦ Ok (token_piece (Text made) (k + 1)) | Open fault ↦ Err fault ])
    (ap (λ (c : ℕ). string_body c (drop 1 u)) (at_front n t r 0 whole (omega arith)) ∙ ap (string_body (at t 0)) (behind ∙ ap (λ (k : ℕ). take k (drop 1 t) ++ r) size_is) ∙ stays)

-- A bracket begins no other token.
abbrev Plain : ℕ → Type 0
Plain c = (is_white c ≡ false) × (is_letter c ≡ false) × (is_digit c ≡ false) × ((c == 46) ≡ false) × (is_quote c ≡ false)

plain_bracket : (t : List ℕ) → (at t 0 == 91) ≡ true → Plain (at t 0)
plain_bracket t e = subst Plain (sym (eqb-true _ _ e)) (refl, refl, refl, refl, refl)

plain_hyphen : (t : List ℕ) → (at t 0 == 45) ≡ true → Plain (at t 0)
plain_hyphen t e = subst Plain (sym (eqb-true _ _ e)) (refl, refl, refl, refl, refl)

plain_numeral : (t : List ℕ) → Plain (at t 0) → is_numeral t ≡ false
plain_numeral t p = or_from _ _ p.2 (and_left _ _ p.3)

pub bracketed_stays : (t r : List ℕ) (n : ℕ) → opens_long t ≡ true → before_closing (equals_behind t) (drop (equals_behind t + 2) t) ≡ Some n → piece_of (take (equals_behind t + 2 + n + (equals_behind t + 2)) t ++ r) ≡ Ok (long_string (take n (drop (equals_behind t + 2) t)) (equals_behind t + 2 + n + (equals_behind t + 2)))
bracketed_stays t r n opens found =
    let whole : ℕ = equals_behind t + 2 + n + (equals_behind t + 2) in
    let fits : n + equals_behind t + 2 ≤ length (drop (equals_behind t + 2) t) = closing_inside (equals_behind t) (drop (equals_behind t + 2) t) n found in
    let left : length (drop (equals_behind t + 2) t) ≡ length t - (equals_behind t + 2) = length-drop (equals_behind t + 2) t in
    let inside_t : whole ≤ length t = omega (arith, fits, left) in
    let u : List ℕ = take whole t ++ r in
    let still : opens_long u ≡ true = opens_same whole t r inside_t (omega arith) ∙ opens in
    let plain : Plain (at u 0) = plain_bracket u (and_parts _ _ still).0 in
    at_bracket u plain.0 plain.1 (plain_numeral u plain) plain.4 still ∙ long_stays long_string t r n opens found

-- ---- comments

-- What stands in front of a comment's text.
hyphens_first : (j : ℕ) (t r : List ℕ) → j ≤ length t → 2 ≤ j → (at t 0 == 45 && at t 1 == 45) ≡ true → (at (take j t ++ r) 0 == 45 && at (take j t ++ r) 1 == 45) ≡ true
hyphens_first j t r h two e =
    ap (λ (c : ℕ). (c == 45) && (at (take j t ++ r) 1 == 45)) (at_front j t r 0 h (omega (arith, two))) ∙ ap (λ (c : ℕ). (at t 0 == 45) && (c == 45)) (at_front j t r 1 h (omega (arith, two))) ∙ e

no_bracket : (t : List ℕ) → (at t 0 == 45) ≡ true → opens_long t ≡ false
no_bracket t e = ap (λ (c : ℕ). (c == 91) && (at t (equals_behind t + 1) == 91)) (eqb-true _ _ e)

pub at_hyphens : (u : List ℕ) → (at u 0 == 45 && at u 1 == 45) ≡ true → piece_of u ≡ comment_of (drop 2 u)
at_hyphens u e =
    let hyphen : (at u 0 == 45) ≡ true = (and_parts _ _ e).0 in
    let plain : Plain (at u 0) = plain_hyphen u hyphen in
    at_comment u plain.0 plain.1 (plain_numeral u plain) plain.4 (no_bracket u hyphen) e

pub long_comment_stays : (t r : List ℕ) (n : ℕ) → (at t 0 == 45 && at t 1 == 45) ≡ true → opens_long (drop 2 t) ≡ true → before_closing (equals_behind (drop 2 t)) (drop (equals_behind (drop 2 t) + 2) (drop 2 t)) ≡ Some n → piece_of (take (equals_behind (drop 2 t) + 2 + n + (equals_behind (drop 2 t) + 2) + 2) t ++ r) ≡ Ok (no_token (equals_behind (drop 2 t) + 2 + n + (equals_behind (drop 2 t) + 2) + 2))
long_comment_stays t r n e opens found =
    let x : List ℕ = drop 2 t in
    let level : ℕ = equals_behind x in
    let size : ℕ = level + 2 + n + (level + 2) in
    let hyphen : (at t 1 == 45) ≡ true = (and_parts _ _ e).1 in
    let second : 1 < length t = inside t 1 45 (omega arith) hyphen in
    let fits : n + level + 2 ≤ length (drop (level + 2) x) = closing_inside level (drop (level + 2) x) n found in
    let left : length (drop (level + 2) x) ≡ length x - (level + 2) = length-drop (level + 2) x in
    let behind : length x ≡ length t - 2 = length-drop 2 t in
    let inside_x : size ≤ length x = omega (arith, fits, left) in
    let inside_t : size + 2 ≤ length t = omega (arith, inside_x, behind, second) in
    let u : List ℕ = take (size + 2) t ++ r in
    let rest : size + 2 - 2 ≡ size = omega arith in
    let text : drop 2 u ≡ take size x ++ r = drop_front 2 (size + 2) t r (omega arith) inside_t ∙ ap (λ (k : ℕ). take k x ++ r) rest in
    let still : opens_long (take size x ++ r) ≡ true = opens_same size x r inside_x (omega arith) ∙ opens in
    at_hyphens u (hyphens_first (size + 2) t r inside_t (omega arith) e) ∙ ap comment_of text ∙ cond-true _ _ _ still ∙ long_stays long_comment x r n opens found

-- What holds of LF and CR holds of a line break.
pub at_break : (P : ℕ → Type 0) (c : ℕ) → P 10 → P 13 → is_break c ≡ true → P c
at_break P c lf cr e = go (or_cases _ _ e)
  where
    go : ((c == 10) ≡ true) ⊎ ((c == 13) ≡ true) → P c
    go (inl h) = subst P (sym (eqb-true _ _ h)) lf
    go (inr h) = subst P (sym (eqb-true _ _ h)) cr

-- A run of = doesn't go on behind its line.
equals_in_line : (x : List ℕ) → 0 < prefix_len (λ c. not (is_break c)) x → prefix_len is_equals (drop 1 x) + 1 ≤ prefix_len (λ c. not (is_break c)) x
equals_in_line x some = go (cases_lt (prefix_len (λ c. not (is_break c)) x) (prefix_len is_equals (drop 1 x) + 1))
  where
    go : (prefix_len (λ c. not (is_break c)) x < prefix_len is_equals (drop 1 x) + 1) ⊎ (prefix_len is_equals (drop 1 x) + 1 ≤ prefix_len (λ c. not (is_break c)) x) → prefix_len is_equals (drop 1 x) + 1 ≤ prefix_len (λ c. not (is_break c)) x
    go (inr h) = h
    go (inl h) =
        let n : ℕ = prefix_len (λ c. not (is_break c)) x in
        let run : prefix_len is_equals (drop 1 x) ≤ length (drop 1 x) = prefix_len-le-length is_equals (drop 1 x) in
        let left : length (drop 1 x) ≡ length x - 1 = length-drop 1 x in
        let within : n - 1 < prefix_len is_equals (drop 1 x) = omega (arith, h, some) in
        let place : 1 + (n - 1) ≡ n = omega (arith, some) in
        let same : at (drop 1 x) (n - 1) ≡ at x n = get_or-drop 1 x (n - 1) 256 ∙ ap (at x) place in
        let equals : is_equals (at x n) ≡ true = ap is_equals (sym same) ∙ prefix_len_passes is_equals (drop 1 x) (n - 1) 256 within in
        let stops : not (is_break (at x n)) ≡ false = prefix_len_stops (λ c. not (is_break c)) x 256 (omega (arith, within, run, left)) in
        let other : not (is_break (at x n)) ≡ true = ap (λ (c : ℕ). not (is_break c)) (eqb-true _ _ equals) in
        absurd (true≢false (sym other ∙ stops))

-- The bytes with which no bracket opens.
abbrev pub ends_bracket : ℕ → Type 0
ends_bracket c = ((c == 91) ≡ false) × (is_equals c ≡ false)

-- No bracket opens across the end of a part in which no run of = ends it.
opens_none : (n : ℕ) (x r : List ℕ) → n ≤ length x → (0 < n → equals_behind x + 1 ≤ n) → opens_long x ≡ false → ends_bracket (at r 0) → opens_long (take n x ++ r) ≡ false
opens_none n x r whole run opens ends = go (cases_lt 0 n)
  where
    no_second : (k : ℕ) → at (take n x ++ r) k ≡ at r 0 → (at (take n x ++ r) k == 91) ≡ false
    no_second k e = ap (λ (c : ℕ). c == 91) e ∙ ends.0

    ended : 0 < n → equals_behind x + 1 ≡ n → opens_long (take n x ++ r) ≡ false
    ended some e =
        let left : length (drop 1 x) ≡ length x - 1 = length-drop 1 x in
        let behind : drop 1 (take n x ++ r) ≡ take (n - 1) (drop 1 x) ++ r = drop_front 1 n x r (omega (arith, some)) whole in
        let equals : equals_behind (take n x ++ r) ≡ n - 1 = ap (prefix_len is_equals) behind ∙ run_ended is_equals (n - 1) (drop 1 x) r (omega (arith, left, whole)) (omega (arith, e)) ends.1 in
        let place : equals_behind (take n x ++ r) + 1 ≡ n = omega (arith, equals, some) in
        and_right _ _ (no_second (equals_behind (take n x ++ r) + 1) (ap (at (take n x ++ r)) place ∙ at_behind n x r whole))

    short : 0 < n → (equals_behind x + 1 < n) ⊎ (n ≤ equals_behind x + 1) → opens_long (take n x ++ r) ≡ false
    short some (inl lt) = opens_same n x r whole lt ∙ opens
    short some (inr ge) = let le : equals_behind x + 1 ≤ n = run some in ended some (omega (arith, ge, le))

    go : (0 < n) ⊎ (n ≤ 0) → opens_long (take n x ++ r) ≡ false
    go (inl some) = short some (cases_lt (equals_behind x + 1) n)
    go (inr none) =
        let nought : n ≡ 0 = omega (arith, none) in
        let first : at (take n x ++ r) 0 ≡ at r 0 = ap (at (take n x ++ r)) (sym nought) ∙ at_behind n x r whole in
        and_left _ _ (no_second 0 first)

-- Nor does one across the end of a line.
pub line_opens_none : (x r : List ℕ) → opens_long x ≡ false → ends_bracket (at r 0) → opens_long (take (prefix_len (λ c. not (is_break c)) x) x ++ r) ≡ false
line_opens_none x r opens ends = opens_none (prefix_len (λ c. not (is_break c)) x) x r (prefix_len-le-length (λ c. not (is_break c)) x) (equals_in_line x) opens ends

-- A comment to the end of its line, in front of a line break.
pub line_comment_stays : (t r : List ℕ) → (at t 0 == 45 && at t 1 == 45) ≡ true → opens_long (drop 2 t) ≡ false → is_break (at r 0) ≡ true → piece_of (take (2 + prefix_len (λ c. not (is_break c)) (drop 2 t)) t ++ r) ≡ Ok (no_token (2 + prefix_len (λ c. not (is_break c)) (drop 2 t)))
line_comment_stays t r e opens ends =
    let x : List ℕ = drop 2 t in
    let other : ℕ → Bool = λ (c : ℕ). not (is_break c) in
    let n : ℕ = prefix_len other x in
    let hyphen : (at t 1 == 45) ≡ true = (and_parts _ _ e).1 in
    let second : 1 < length t = inside t 1 45 (omega arith) hyphen in
    let behind : length x ≡ length t - 2 = length-drop 2 t in
    let inside_x : n ≤ length x = prefix_len-le-length other x in
    let inside_t : 2 + n ≤ length t = omega (arith, inside_x, behind, second) in
    let u : List ℕ = take (2 + n) t ++ r in
    let rest : 2 + n - 2 ≡ n = omega arith in
    let text : drop 2 u ≡ take n x ++ r = drop_front 2 (2 + n) t r (omega arith) inside_t ∙ ap (λ (k : ℕ). take k x ++ r) rest in
    let run : prefix_len other (take n x ++ r) ≡ n = run_ended other n x r inside_x refl (ap not ends) in
    at_hyphens u (hyphens_first (2 + n) t r inside_t (omega arith) e) ∙ ap comment_of text
    ∙ cond-false _ _ _ (line_opens_none x r opens (at_break ends_bracket (at r 0) (refl, refl) (refl, refl) ends)) ∙ ap (λ (k : ℕ). Ok (no_token (2 + k))) run

-- ---- marks

-- The size of a mark by its first three bytes.
abbrev pub mark_at : ℕ → ℕ → ℕ → ℕ
mark_at a b c =
    if a == 46 then (if b == 46 then (if c == 46 then 3 else 2) else 1)
    else (if a == 126 then (if b == 61 then 2 else 0)
    else (if a == 61 || (a == 60 || a == 62) then (if b == 61 then 2 else 1)
    else (if is_single a then 1 else 0)))

-- A mark of one byte, in front of a byte that goes on with none.
abbrev OneByte : ℕ → ℕ → ℕ → ℕ → Type 0
OneByte a x y n = n ≡ 1 → mark_at a x y ≡ 1

one_byte : (a b c x y : ℕ) → (x == 46) ≡ false → (x == 61) ≡ false → OneByte a x y (mark_at a b c)
one_byte a b c x y dot equals =
    cond_both (a == 46) _ _ (OneByte a x y) (λ e n. cond-true _ _ _ e ∙ cond-false _ _ _ dot)
    (λ e. cond_both (a == 126) _ _ (OneByte a x y)
    (λ f. cond_both (b == 61) 2 0 (OneByte a x y) (λ g n. absurd cc) (λ g n. absurd cc))
    (λ f. cond_both (a == 61 || (a == 60 || a == 62)) _ _ (OneByte a x y) (λ g n. cond-false _ _ _ e ∙ cond-false _ _ _ f ∙ cond-true _ _ _ g ∙ cond-false _ _ _ equals)
    (λ g. cond_both (is_single a) 1 0 (OneByte a x y) (λ i n. cond-false _ _ _ e ∙ cond-false _ _ _ f ∙ cond-false _ _ _ g ∙ cond-true _ _ _ i) (λ i n. absurd cc))))

-- A mark of two.
abbrev TwoBytes : ℕ → ℕ → ℕ → ℕ → Type 0
TwoBytes a b x n = n ≡ 2 → mark_at a b x ≡ 2

two_bytes : (a b c x : ℕ) → (x == 46) ≡ false → TwoBytes a b x (mark_at a b c)
two_bytes a b c x dot =
    cond_both (a == 46) _ _ (TwoBytes a b x)
    (λ e. cond_both (b == 46) _ _ (TwoBytes a b x) (λ f n. cond-true _ _ _ e ∙ cond-true _ _ _ f ∙ cond-false _ _ _ dot) (λ f n. absurd cc))
    (λ e. cond_both (a == 126) _ _ (TwoBytes a b x)
    (λ f. cond_both (b == 61) 2 0 (TwoBytes a b x) (λ g n. cond-false _ _ _ e ∙ cond-true _ _ _ f ∙ cond-true _ _ _ g) (λ g n. absurd cc))
    (λ f. cond_both (a == 61 || (a == 60 || a == 62)) _ _ (TwoBytes a b x)
    (λ g. cond_both (b == 61) 2 1 (TwoBytes a b x) (λ i n. cond-false _ _ _ e ∙ cond-false _ _ _ f ∙ cond-true _ _ _ g ∙ cond-true _ _ _ i) (λ i n. absurd cc))
    (λ g. cond_both (is_single a) 1 0 (TwoBytes a b x) (λ i n. absurd cc) (λ i n. absurd cc))))

pub mark_size_stays : (t r : List ℕ) (n : ℕ) → n ≤ length t → n ≡ mark_size t → 0 < n → ends_mark (at r 0) → mark_size (take n t ++ r) ≡ n
mark_size_stays t r zero h e some ends = absurd (omega (arith, some))
mark_size_stays t r (suc zero) h e some ends =
    let u : List ℕ = take 1 t ++ r in
    ap (λ (a : ℕ). mark_at a (at u 1) (at u 2)) (at_front 1 t r 0 h (omega arith)) ∙ ap (λ (b : ℕ). mark_at (at t 0) b (at u 2)) (at_behind 1 t r h)
    ∙ one_byte (at t 0) (at t 1) (at t 2) (at r 0) (at u 2) ends.0 ends.1 (sym e)
mark_size_stays t r (suc (suc zero)) h e some ends =
    let u : List ℕ = take 2 t ++ r in
    ap (λ (a : ℕ). mark_at a (at u 1) (at u 2)) (at_front 2 t r 0 h (omega arith)) ∙ ap (λ (b : ℕ). mark_at (at t 0) b (at u 2)) (at_front 2 t r 1 h (omega arith)) ∙ ap (mark_at (at t 0) (at t 1)) (at_behind 2 t r h)
    ∙ two_bytes (at t 0) (at t 1) (at t 2) (at r 0) ends.0 (sym e)
mark_size_stays t r (suc (suc (suc n))) h e some ends =
    let u : List ℕ = take (suc (suc (suc n))) t ++ r in
    ap (λ (a : ℕ). mark_at a (at u 1) (at u 2)) (at_front (suc (suc (suc n))) t r 0 h (omega arith)) ∙ ap (λ (b : ℕ). mark_at (at t 0) b (at u 2)) (at_front (suc (suc (suc n))) t r 1 h (omega arith)) ∙ ap (mark_at (at t 0) (at t 1)) (at_front (suc (suc (suc n))) t r 2 h (omega arith))
    ∙ sym e

-- A mark, where nothing else stands.
pub marked : (u : List ℕ) (n : ℕ) → is_white (at u 0) ≡ false → is_letter (at u 0) ≡ false → is_numeral u ≡ false → is_quote (at u 0) ≡ false → opens_long u ≡ false → (at u 0 == 45 && at u 1 == 45) ≡ false → mark_size u ≡ n → 0 < n → piece_of u ≡ Ok (token_piece (Mark (take n u)) n)
marked u n w l d q o c e some =
    at_mark u w l d q o c ∙ ap (λ (k : ℕ). if 0 == k then Err 4 else Ok (token_piece (Mark (take k u)) k)) e ∙ cond-false _ _ _ (positive n some)
  where
    positive : (k : ℕ) → 0 < k → (0 == k) ≡ false
    positive zero h = absurd (omega (arith, h))
    positive (suc k) h = ne_eqb 0 (suc k) (λ e. absurd (omega (arith, e)))
