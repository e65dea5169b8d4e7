-- How many bytes a piece has: some, and no more than there are.
use Rattle.std.proofs.Common.{◌≡◌, ℕ, zero, suc, ◌+◌, ◌-◌, ◌<◌, ◌≤◌, ◌⊎◌, inl, inr, true, false, List, [], ◌∷◌, length, take, drop, refl, subst, arith, length-drop}
use Rattle.std.specs.Prelude.{Option, Some, None, Result, Ok, Err, not, ◌==◌, ◌&&◌, ◌||◌}
use Rattle.std.specs.List.{prefix_len}
use Rattle.std.proofs.lemmas.Bool.{and_parts, or_cases, cases_lt, eqb-true, or_left, cond_both}
use Rattle.std.proofs.lemmas.List.{get_or_past}
use Rattle.std.proofs.lemmas.List.Sums.{prefix_len-le-length}
use Rattle.lua_lexer.specs.declared.token.TokenKind.TheVariants.{Text}
use Rattle.lua_lexer.specs.declared.token.Piece.{Piece}
use Rattle.lua_lexer.specs.WkBaseSpace.{is_white}
use Rattle.lua_lexer.specs.Lexis.{at, is_break, is_letter, is_numeral, is_name_byte, is_number_byte, is_quote, is_single, equals_behind, opens_long, closes_long, one_later, before_closing, Escape, Gives, Wrong, escape_of, Body, Closed, Open, behind_byte, with_byte, behind_escape, body_after, string_body, exponent_size, numeral_size, mark_size, token_piece, long_piece, long_comment, long_string, comment_of, string_of, mark_of, piece_of}
use Rattle.lua_lexer.proofs.PieceLemmas.{prefix_positive, numeral_positive}

-- ---- places

-- A byte that is one stands inside the text.
pub inside : (t : List ℕ) (k b : ℕ) → b < 256 → (at t k == b) ≡ true → k < length t
inside t k b low e = go (cases_lt k (length t))
  where
    go : (k < length t) ⊎ (length t ≤ k) → k < length t
    go (inl h) = h
    go (inr h) = let past : at t k ≡ 256 = get_or_past t k 256 h in let same : at t k ≡ b = eqb-true _ _ e in absurd (omega (arith, past, same, low))

-- One of two bytes does.
inside_either : (t : List ℕ) (k a b : ℕ) → a < 256 → b < 256 → ((at t k == a) || (at t k == b)) ≡ true → k < length t
inside_either t k a b low_a low_b e = go (or_cases _ _ e)
  where
    go : ((at t k == a) ≡ true) ⊎ ((at t k == b) ≡ true) → k < length t
    go (inl h) = inside t k a low_a h
    go (inr h) = inside t k b low_b h

-- ---- what fits

-- A piece has a byte at least, and so many at most.
abbrev pub Fits : ℕ → Result Piece ℕ → Type 0
Fits n (Ok p) = (0 < p.size) × (p.size ≤ n)
Fits n (Err fault) = Unit {0}

-- ---- numerals

exponent_inside : (t : List ℕ) → exponent_size t ≤ length t
exponent_inside t =
    cond_both ((at t 0 == 101) || (at t 0 == 69)) _ _ (λ (n : ℕ). n ≤ length t)
    (λ letter.
    let one : 0 < length t = inside_either t 0 101 69 (omega arith) (omega arith) letter in
    cond_both ((at t 1 == 43) || (at t 1 == 45)) 2 1 (λ (n : ℕ). n ≤ length t)
    (λ sign. let two : 1 < length t = inside_either t 1 43 45 (omega arith) (omega arith) sign in omega (arith, two))
    (λ none. omega (arith, one)))
    (λ none. omega arith)

pub numeral_inside : (t : List ℕ) → numeral_size t ≤ length t
unfolding numeral_size
numeral_inside t =
    let behind : List ℕ = drop (prefix_len is_number_byte t) t in
    let last : List ℕ = drop (exponent_size behind) behind in
    let one : prefix_len is_number_byte t ≤ length t = prefix_len-le-length is_number_byte t in
    let two : exponent_size behind ≤ length behind = exponent_inside behind in
    let three : prefix_len is_name_byte last ≤ length last = prefix_len-le-length is_name_byte last in
    let left : length behind ≡ length t - prefix_len is_number_byte t = length-drop (prefix_len is_number_byte t) t in
    let rest : length last ≡ length behind - exponent_size behind = length-drop (exponent_size behind) behind in
    omega (arith, one, two, three, left, rest)

-- ---- marks

pub mark_inside : (t : List ℕ) → 0 < length t → mark_size t ≤ length t
mark_inside t h =
    cond_both (at t 0 == 46) _ _ (λ (n : ℕ). n ≤ length t)
    (λ dot. cond_both (at t 1 == 46) _ _ (λ (n : ℕ). n ≤ length t)
    (λ dots.
    let two : 1 < length t = inside t 1 46 (omega arith) dots in
    cond_both (at t 2 == 46) 3 2 (λ (n : ℕ). n ≤ length t)
    (λ three. let third : 2 < length t = inside t 2 46 (omega arith) three in omega (arith, third))
    (λ none. omega (arith, two)))
    (λ none. omega (arith, h)))
    (λ no_dot. cond_both (at t 0 == 126) _ _ (λ (n : ℕ). n ≤ length t)
    (λ tilde. cond_both (at t 1 == 61) 2 0 (λ (n : ℕ). n ≤ length t)
    (λ equals. let two : 1 < length t = inside t 1 61 (omega arith) equals in omega (arith, two))
    (λ none. omega arith))
    (λ no_tilde. cond_both ((at t 0 == 61) || ((at t 0 == 60) || (at t 0 == 62))) _ _ (λ (n : ℕ). n ≤ length t)
    (λ compared. cond_both (at t 1 == 61) 2 1 (λ (n : ℕ). n ≤ length t)
    (λ equals. let two : 1 < length t = inside t 1 61 (omega arith) equals in omega (arith, two))
    (λ none. omega (arith, h)))
    (λ other. cond_both (is_single (at t 0)) 1 0 (λ (n : ℕ). n ≤ length t) (λ one. omega (arith, h)) (λ none. omega arith))))

-- ---- long brackets

closing_found : (level : ℕ) (cs : List ℕ) (n : ℕ) (o : Option ℕ) → ((m : ℕ) → o ≡ Some m → m + level + 2 ≤ length cs) → one_later o ≡ Some n → n + level + 2 ≤ suc (length cs)
closing_found level cs n None h e = absurd cc
closing_found level cs n (Some m) h e = let fits : m + level + 2 ≤ length cs = h m refl in let same : suc m ≡ n = cc in omega (arith, fits, same)

-- The first closing bracket ends inside the text.
pub closing_inside : (level : ℕ) (t : List ℕ) (n : ℕ) → before_closing level t ≡ Some n → n + level + 2 ≤ length t
closing_inside level [] n e = absurd cc
closing_inside level (c ∷ cs) n e =
    cond_both (closes_long level (c ∷ cs)) (Some 0) (one_later (before_closing level cs)) (λ (o : Option ℕ). o ≡ Some n → n + level + 2 ≤ length (c ∷ cs))
    (λ closes found.
    let both : (equals_behind (c ∷ cs) == level && at (c ∷ cs) (level + 1) == 93) ≡ true = (and_parts _ _ closes).1 in
    let last : level + 1 < length (c ∷ cs) = inside (c ∷ cs) (level + 1) 93 (omega arith) (and_parts _ _ both).1 in
    let none : 0 ≡ n = cc in
    omega (arith, last, none))
    (λ goes_on found. closing_found level cs n (before_closing level cs) (λ m f. closing_inside level cs m f) found)
    e

-- A long bracket behind so many bytes of a text.
long_fits : (made : List ℕ → ℕ → Piece) (more level : ℕ) (t : List ℕ) (n : ℕ) → ((inner : List ℕ) (size : ℕ) → (made inner size).size ≡ size + more) → length t + more ≤ n → Fits n (long_piece made level (drop (level + 2) t))
long_fits made more level t n sizes le = go (before_closing level (drop (level + 2) t)) refl
  where
    go : (o : Option ℕ) → before_closing level (drop (level + 2) t) ≡ o → Fits n (elim o as (λ x. Result Piece ℕ) [ None ↦ Err 2 | Some m ↦ Ok (made (take m (drop (level + 2) t)) (level + 2 + m + (level + 2))) ])
    go None e = tt
    go (Some m) e =
        let fits : m + level + 2 ≤ length (drop (level + 2) t) = closing_inside level (drop (level + 2) t) m e in
        let left : length (drop (level + 2) t) ≡ length t - (level + 2) = length-drop (level + 2) t in
        let size : (made (take m (drop (level + 2) t)) (level + 2 + m + (level + 2))).size ≡ level + 2 + m + (level + 2) + more = sizes (take m (drop (level + 2) t)) (level + 2 + m + (level + 2)) in
        (omega (arith, size), omega (arith, fits, left, size, le))

-- ---- strings

abbrev pub Short : ℕ → Body → Type 0
Short n (Closed bytes size) = (0 < size) × (size ≤ n)
Short n (Open fault) = Unit {0}

short_with : (n b : ℕ) (body : Body) → Short n body → Short (suc n) (with_byte b body)
short_with n b (Closed bytes size) h = let le : size ≤ n = h.1 in (omega arith, omega (arith, le))
short_with n b (Open fault) h = tt

short_behind : (n : ℕ) (body : Body) → Short n body → Short (suc n) (behind_byte body)
short_behind n (Closed bytes size) h = let le : size ≤ n = h.1 in (omega arith, omega (arith, le))
short_behind n (Open fault) h = tt

short_escape : (n : ℕ) (e : Escape) (further : ℕ → Body) → ((k : ℕ) → Short n (further k)) → Short (suc n) (behind_escape e further)
short_escape n (Gives b size) further h = short_with n b (further (size - 1)) (h (size - 1))
short_escape n (Wrong fault) further h = tt

pub body_short : (q n : ℕ) (t : List ℕ) → Short (length t) (body_after q n t)
body_short q zero [] = tt
body_short q (suc n) [] = tt
body_short q (suc n) (c ∷ cs) = short_behind (length cs) (body_after q n cs) (body_short q n cs)
body_short q zero (c ∷ cs) =
    cond_both (c == q) _ _ (Short (length (c ∷ cs))) (λ quote. (omega arith, omega arith))
    (λ e. cond_both (is_break c) _ _ (Short (length (c ∷ cs))) (λ breaks. tt)
    (λ f. cond_both (c == 92) _ _ (Short (length (c ∷ cs))) (λ slash. short_escape (length cs) (escape_of cs) (λ n. body_after q n cs) (λ n. body_short q n cs))
    (λ g. short_with (length cs) c (body_after q 0 cs) (body_short q 0 cs))))

pub string_short : (q : ℕ) (t : List ℕ) → Short (length t) (string_body q t)
unfolding string_body
string_short q t = body_short q 0 t

string_fits : (t : List ℕ) → 0 < length t → Fits (length t) (string_of t)
string_fits t h = go (string_body (at t 0) (drop 1 t)) (string_short (at t 0) (drop 1 t))
  where
    go : (b : Body) → Short (length (drop 1 t)) b → Fits (length t) (elim b as (λ x. Result Piece ℕ) [ Closed bytes size ↦ Ok (token_piece (Text bytes) (size + 1)) | Open fault ↦ Err fault ])
    go (Closed bytes size) s = let le : size ≤ length (drop 1 t) = s.1 in let left : length (drop 1 t) ≡ length t - 1 = length-drop 1 t in (omega arith, omega (arith, le, left, h))
    go (Open fault) s = tt

-- ---- all pieces

comment_fits : (t : List ℕ) → 0 < length t → (at t 0 == 45 && at t 1 == 45) ≡ true → Fits (length t) (comment_of (drop 2 t))
comment_fits t h e =
    let hyphen : (at t 1 == 45) ≡ true = (and_parts _ _ e).1 in
    let two : 1 < length t = inside t 1 45 (omega arith) hyphen in
    let left : length (drop 2 t) ≡ length t - 2 = length-drop 2 t in
    cond_both (opens_long (drop 2 t)) _ _ (Fits (length t))
    (λ long. long_fits long_comment 2 (equals_behind (drop 2 t)) (drop 2 t) (length t) (λ inner size. refl) (omega (arith, two, left)))
    (λ line. let run : prefix_len (λ c. not (is_break c)) (drop 2 t) ≤ length (drop 2 t) = prefix_len-le-length (λ c. not (is_break c)) (drop 2 t) in (omega arith, omega (arith, run, two, left)))

pub nought : (n : ℕ) → (0 == n) ≡ false → 0 < n
nought zero e = absurd cc
nought (suc n) e = omega arith

mark_fits : (t : List ℕ) → 0 < length t → Fits (length t) (mark_of t)
mark_fits t h = cond_both (0 == mark_size t) (Err 4) _ (Fits (length t)) (λ none. tt) (λ some. (nought (mark_size t) some, mark_inside t h))

pub piece_fits : (t : List ℕ) → 0 < length t → Fits (length t) (piece_of t)
unfolding piece_of
piece_fits t h =
    cond_both (is_white (at t 0)) _ _ (Fits (length t)) (λ e. (prefix_positive is_white t h e, prefix_len-le-length is_white t))
    (λ e. cond_both (is_letter (at t 0)) _ _ (Fits (length t)) (λ f. (prefix_positive is_name_byte t h (or_left _ _ f), prefix_len-le-length is_name_byte t))
    (λ f. cond_both (is_numeral t) _ _ (Fits (length t)) (λ g. (numeral_positive t h g, numeral_inside t))
    (λ g. cond_both (is_quote (at t 0)) (string_of t) _ (Fits (length t)) (λ i. string_fits t h)
    (λ i. cond_both (opens_long t) _ _ (Fits (length t)) (λ j. long_fits long_string 0 (equals_behind t) t (length t) (λ inner size. omega arith) (omega arith))
    (λ j. cond_both (at t 0 == 45 && at t 1 == 45) (comment_of (drop 2 t)) (mark_of t) (Fits (length t)) (comment_fits t h) (λ k. mark_fits t h))))))

-- A piece that is found.
pub found_fits : (t : List ℕ) (p : Piece) → 0 < length t → piece_of t ≡ Ok p → (0 < p.size) × (p.size ≤ length t)
found_fits t p h e = subst (Fits (length t)) e (piece_fits t h)
