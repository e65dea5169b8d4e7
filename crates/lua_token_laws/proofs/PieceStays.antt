-- Each piece stays the same in front of a byte that goes on with none.
use Rattle.std.proofs.Common.{◌≡◌, ℕ, ◌+◌, ◌-◌, ◌<◌, ◌≤◌, ◌⊎◌, inl, inr, Bool, true, false, List, [], ◌∷◌, ◌++◌, length, take, drop, refl, sym, ap, subst, ◌∙◌, arith}
use Rattle.std.specs.Prelude.{Option, Some, None, Result, Ok, Err, ◌==◌, ◌&&◌}
use Rattle.std.specs.List.{prefix_len, list_any}
use Rattle.std.proofs.lemmas.Bool.{or_parts, cases_lt, eqb-true, cond_both, cond-false, and_left, and_right, or_from}
use Rattle.std.proofs.lemmas.List.{drop_at, length-take-le}
use Rattle.lua_lexer.specs.declared.token.TokenKind.TheVariants.{Mark, Text}
use Rattle.lua_lexer.specs.declared.token.Piece.{Piece}
use Rattle.lua_lexer.specs.WkBaseSpace.{is_white}
use Rattle.lua_lexer.specs.Lexis.{at, is_letter, is_digit, is_numeral, is_quote, is_equals, equals_behind, opens_long, before_closing, Body, Closed, Open, string_body, mark_size, token_piece, long_piece, long_comment, long_string, comment_of, string_of, mark_of, piece_of}
use Rattle.lua_token_laws.specs.Pieces.{Ends, Stays, IsLineEnded}
use Rattle.lua_token_laws.proofs.SizeLemmas.{mark_inside, nought}
use Rattle.lua_token_laws.proofs.RunLemmas.{at_front, at_behind, take_front}
use Rattle.lua_token_laws.proofs.StayLemmas.{word_stays, number_stays, quoted_stays, bracketed_stays, long_comment_stays, line_comment_stays, mark_size_stays, mark_at, marked}

-- ---- the bytes that go on with no piece

-- LF, space, ) , : ; ]
abbrev pub is_end : ℕ → Bool
is_end c = list_any (λ b. c == b) (10 ∷ 32 ∷ 41 ∷ 44 ∷ 58 ∷ 59 ∷ 93 ∷ [])

pub lf_ends : Ends 10
lf_ends = record { name = refl; number = refl; digit = refl; exponent = (refl, refl); mark = (refl, refl); hyphen = refl; bracket = refl; equals = refl }

pub space_ends : Ends 32
space_ends = record { name = refl; number = refl; digit = refl; exponent = (refl, refl); mark = (refl, refl); hyphen = refl; bracket = refl; equals = refl }

pub paren_ends : Ends 41
paren_ends = record { name = refl; number = refl; digit = refl; exponent = (refl, refl); mark = (refl, refl); hyphen = refl; bracket = refl; equals = refl }

pub comma_ends : Ends 44
comma_ends = record { name = refl; number = refl; digit = refl; exponent = (refl, refl); mark = (refl, refl); hyphen = refl; bracket = refl; equals = refl }

pub colon_ends : Ends 58
colon_ends = record { name = refl; number = refl; digit = refl; exponent = (refl, refl); mark = (refl, refl); hyphen = refl; bracket = refl; equals = refl }

pub semicolon_ends : Ends 59
semicolon_ends = record { name = refl; number = refl; digit = refl; exponent = (refl, refl); mark = (refl, refl); hyphen = refl; bracket = refl; equals = refl }

pub bracket_ends : Ends 93
bracket_ends = record { name = refl; number = refl; digit = refl; exponent = (refl, refl); mark = (refl, refl); hyphen = refl; bracket = refl; equals = refl }

-- ---- marks

pub none_run : (test : ℕ → Bool) (r : List ℕ) → test (at r 0) ≡ false → prefix_len test r ≡ 0
none_run test [] e = refl
none_run test (c ∷ cs) e = cond-false _ _ _ e

-- Marks that begin so have one byte.
one_bracket : (t : List ℕ) → (at t 0 == 91) ≡ true → mark_size t ≡ 1
one_bracket t e = ap (λ (a : ℕ). mark_at a (at t 1) (at t 2)) (eqb-true _ _ e)

one_hyphen : (t : List ℕ) → (at t 0 == 45) ≡ true → mark_size t ≡ 1
one_hyphen t e = ap (λ (a : ℕ). mark_at a (at t 1) (at t 2)) (eqb-true _ _ e)

-- What stands behind a mark of one byte.
module _ (t r : List ℕ) (n : ℕ) (some : 0 < n) (whole : n ≤ length t) where
  first : at (take n t ++ r) 0 ≡ at t 0
  first = at_front n t r 0 whole some

  second_of_one : n ≡ 1 → at (take n t ++ r) 1 ≡ at r 0
  second_of_one e = ap (at (take n t ++ r)) (sym e) ∙ at_behind n t r whole

  rest_of_one : n ≡ 1 → drop 1 (take n t ++ r) ≡ r
  rest_of_one e = ap (λ (k : ℕ). drop k (take n t ++ r)) (sym e) ∙ drop_at (take n t) r n (length-take-le n t whole)

  no_numeral : is_numeral t ≡ false → is_digit (at r 0) ≡ false → is_numeral (take n t ++ r) ≡ false
  no_numeral e digit =
      let parts = or_parts (is_digit (at t 0)) ((at t 0 == 46) && is_digit (at t 1)) e in
      or_from _ _ (ap is_digit first ∙ parts.0) (ap (λ (c : ℕ). (c == 46) && is_digit (at (take n t ++ r) 1)) first ∙ point (cases_lt 1 n) parts.1)
    where
      point : (1 < n) ⊎ (n ≤ 1) → ((at t 0 == 46) && is_digit (at t 1)) ≡ false → ((at t 0 == 46) && is_digit (at (take n t ++ r) 1)) ≡ false
      point (inl lt) e = ap (λ (c : ℕ). (at t 0 == 46) && is_digit c) (at_front n t r 1 whole lt) ∙ e
      point (inr le) e = and_right _ _ (ap is_digit (second_of_one (omega (arith, le, some))) ∙ digit)

  no_opening : ((at t 0 == 91) ≡ true → n ≡ 1) → (at r 0 == 91) ≡ false → is_equals (at r 0) ≡ false → opens_long (take n t ++ r) ≡ false
  no_opening one bracket equals =
      ap (λ (c : ℕ). (c == 91) && (at (take n t ++ r) (equals_behind (take n t ++ r) + 1) == 91)) first ∙ go (at t 0 == 91) refl
    where
      go : (b : Bool) → (at t 0 == 91) ≡ b → ((at t 0 == 91) && (at (take n t ++ r) (equals_behind (take n t ++ r) + 1) == 91)) ≡ false
      go false e = and_left _ _ e
      go true e =
          let run : equals_behind (take n t ++ r) ≡ 0 = ap (prefix_len is_equals) (rest_of_one (one e)) ∙ none_run is_equals r equals in
          let place : equals_behind (take n t ++ r) + 1 ≡ 1 = omega (arith, run) in
          and_right _ _ (ap (λ (k : ℕ). at (take n t ++ r) k == 91) place ∙ ap (λ (c : ℕ). c == 91) (second_of_one (one e)) ∙ bracket)

  no_hyphens : ((at t 0 == 45) ≡ true → n ≡ 1) → (at r 0 == 45) ≡ false → (at (take n t ++ r) 0 == 45 && at (take n t ++ r) 1 == 45) ≡ false
  no_hyphens one hyphen = ap (λ (c : ℕ). (c == 45) && (at (take n t ++ r) 1 == 45)) first ∙ go (at t 0 == 45) refl
    where
      go : (b : Bool) → (at t 0 == 45) ≡ b → ((at t 0 == 45) && (at (take n t ++ r) 1 == 45)) ≡ false
      go false e = and_left _ _ e
      go true e = and_right _ _ (ap (λ (c : ℕ). c == 45) (second_of_one (one e)) ∙ hyphen)

-- A mark stays the same.
mark_stays : (t r : List ℕ) → 0 < length t → is_white (at t 0) ≡ false → is_letter (at t 0) ≡ false → is_numeral t ≡ false → is_quote (at t 0) ≡ false → Ends (at r 0) → 0 < mark_size t → piece_of (take (mark_size t) t ++ r) ≡ Ok (token_piece (Mark (take (mark_size t) t)) (mark_size t))
mark_stays t r h w l d q ends some =
    let whole : mark_size t ≤ length t = mark_inside t h in
    let start : at (take (mark_size t) t ++ r) 0 ≡ at t 0 = at_front (mark_size t) t r 0 whole some in
    marked (take (mark_size t) t ++ r) (mark_size t) (ap is_white start ∙ w) (ap is_letter start ∙ l) (no_numeral t r (mark_size t) some whole d ends.digit) (ap is_quote start ∙ q)
    (no_opening t r (mark_size t) some whole (one_bracket t) ends.bracket ends.equals) (no_hyphens t r (mark_size t) some whole (one_hyphen t) ends.hyphen)
    (mark_size_stays t r (mark_size t) whole refl some ends.mark) some
    ∙ ap (λ (x : List ℕ). Ok (token_piece (Mark x) (mark_size t))) (take_front (mark_size t) t r whole)

-- ---- all pieces

string_stays : (t r : List ℕ) → 0 < length t → is_white (at t 0) ≡ false → is_letter (at t 0) ≡ false → is_quote (at t 0) ≡ true → Stays t r (string_of t)
string_stays t r h w l q = go (string_body (at t 0) (drop 1 t)) refl
  where
    go : (b : Body) → string_body (at t 0) (drop 1 t) ≡ b → Stays t r (elim b as (λ x. Result Piece ℕ) [ Closed bytes size ↦ Ok (token_piece (Text bytes) (size + 1)) | Open fault ↦ Err fault ])
    go (Closed bytes size) e = quoted_stays t r bytes size h w l q e
    go (Open fault) e = tt

bracket_stays : (t r : List ℕ) → opens_long t ≡ true → Stays t r (long_piece long_string (equals_behind t) (drop (equals_behind t + 2) t))
bracket_stays t r opens = go (before_closing (equals_behind t) (drop (equals_behind t + 2) t)) refl
  where
    go : (o : Option ℕ) → before_closing (equals_behind t) (drop (equals_behind t + 2) t) ≡ o → Stays t r (elim o as (λ x. Result Piece ℕ) [ None ↦ Err 2 | Some n ↦ Ok (long_string (take n (drop (equals_behind t + 2) t)) (equals_behind t + 2 + n + (equals_behind t + 2))) ])
    go None e = tt
    go (Some n) e = bracketed_stays t r n opens e

long_stays : (t r : List ℕ) → (at t 0 == 45 && at t 1 == 45) ≡ true → opens_long (drop 2 t) ≡ true → Stays t r (long_piece long_comment (equals_behind (drop 2 t)) (drop (equals_behind (drop 2 t) + 2) (drop 2 t)))
long_stays t r hyphens opens = go (before_closing (equals_behind (drop 2 t)) (drop (equals_behind (drop 2 t) + 2) (drop 2 t))) refl
  where
    go : (o : Option ℕ) → before_closing (equals_behind (drop 2 t)) (drop (equals_behind (drop 2 t) + 2) (drop 2 t)) ≡ o
        → Stays t r (elim o as (λ x. Result Piece ℕ) [ None ↦ Err 2 | Some n ↦ Ok (long_comment (take n (drop (equals_behind (drop 2 t) + 2) (drop 2 t))) (equals_behind (drop 2 t) + 2 + n + (equals_behind (drop 2 t) + 2))) ])
    go None e = tt
    go (Some n) e = long_comment_stays t r n hyphens opens e

-- A piece that isn't white space, in front of such a byte; a comment to the end of its line in front of a line break.
pub piece_stays : (t r : List ℕ) → 0 < length t → is_white (at t 0) ≡ false → Ends (at r 0) → IsLineEnded t (at r 0) → Stays t r (piece_of t)
unfolding piece_of
piece_stays t r h w ends line =
    subst (Stays t r) (sym (cond-false _ _ _ w))
    (cond_both (is_letter (at t 0)) _ _ (Stays t r) (λ f. word_stays t r h w f ends.name)
    (λ f. cond_both (is_numeral t) _ _ (Stays t r) (λ g. number_stays t r h w f g (ends.number, ends.exponent, ends.name))
    (λ g. cond_both (is_quote (at t 0)) (string_of t) _ (Stays t r) (λ i. string_stays t r h w f i)
    (λ i. cond_both (opens_long t) _ _ (Stays t r) (λ j. bracket_stays t r j)
    (λ j. cond_both (at t 0 == 45 && at t 1 == 45) (comment_of (drop 2 t)) (mark_of t) (Stays t r)
    (λ k. cond_both (opens_long (drop 2 t)) _ _ (Stays t r) (λ m. long_stays t r k m) (λ m. line_comment_stays t r k m (line k m)))
    (λ k. cond_both (0 == mark_size t) (Err 4) _ (Stays t r) (λ none. tt) (λ some. mark_stays t r h w f g i ends (nought (mark_size t) some))))))))
