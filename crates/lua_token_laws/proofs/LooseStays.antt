-- Pieces that stay the same in front of more bytes than others do: names, strings, long comments and marks of one byte.
use Rattle.std.proofs.Common.{◌≡◌, ℕ, ◌+◌, ◌<◌, Bool, true, false, List, [], ◌∷◌, ◌++◌, length, take, drop, refl, sym, ap, subst, ◌∙◌, true≢false}
use Rattle.std.specs.Prelude.{Option, Some, None, Result, Ok, Err, if◌then◌else◌, cond, ◌==◌, ◌&&◌}
use Rattle.std.specs.List.{prefix_len}
use Rattle.std.proofs.lemmas.Bool.{cond_both, cond-false}
use Rattle.lua_lexer.specs.declared.token.TokenKind.{TokenKind}
use Rattle.lua_lexer.specs.declared.token.TokenKind.TheVariants.{Name, Word, Mark, Text}
use Rattle.lua_lexer.specs.declared.token.Piece.{Piece}
use Rattle.lua_lexer.specs.WkBaseSpace.{is_white}
use Rattle.lua_lexer.specs.Lexis.{at, is_letter, is_digit, is_numeral, is_quote, is_name_byte, is_keyword, equals_behind, opens_long, before_closing, Body, Closed, Open, string_body, mark_size, no_token, token_piece, long_piece, long_comment, long_string, comment_of, string_of, mark_of, piece_of}
use Rattle.lua_token_laws.proofs.StayLemmas.{word_stays, quoted_stays, bracketed_stays, long_comment_stays}

-- A name in front of a byte that is none of a name; a string, and a long comment, in front of any.
abbrev IsLoose : List ℕ → List ℕ → Option TokenKind → ℕ → Type 0
IsLoose t r (Some (Name n)) size = is_name_byte (at r 0) ≡ false → piece_of (take size t ++ r) ≡ Ok (token_piece (Name n) size)
IsLoose t r (Some (Text b)) size = piece_of (take size t ++ r) ≡ Ok (token_piece (Text b) size)
IsLoose t r None size = opens_long (drop 2 t) ≡ true → piece_of (take size t ++ r) ≡ Ok (no_token size)
IsLoose t r kind size = Unit {0}

abbrev Loose : List ℕ → List ℕ → Result Piece ℕ → Type 0
Loose t r (Ok p) = IsLoose t r p.kind p.size
Loose t r (Err fault) = Unit {0}

loose_word : (t r w : List ℕ) (n : ℕ) (b : Bool) → (is_name_byte (at r 0) ≡ false → piece_of (take n t ++ r) ≡ Ok (token_piece (cond b (Word w) (Name w)) n)) → IsLoose t r (Some (cond b (Word w) (Name w))) n
loose_word t r w n true h = tt
loose_word t r w n false h = h

loose_string : (t r : List ℕ) → 0 < length t → is_white (at t 0) ≡ false → is_letter (at t 0) ≡ false → is_quote (at t 0) ≡ true → Loose t r (string_of t)
loose_string t r h w l q = go (string_body (at t 0) (drop 1 t)) refl
  where
    go : (b : Body) → string_body (at t 0) (drop 1 t) ≡ b → Loose t r (elim b as (λ x. Result Piece ℕ) [ Closed bytes size ↦ Ok (token_piece (Text bytes) (size + 1)) | Open fault ↦ Err fault ])
    go (Closed bytes size) e = quoted_stays t r bytes size h w l q e
    go (Open fault) e = tt

loose_bracket : (t r : List ℕ) → opens_long t ≡ true → Loose t r (long_piece long_string (equals_behind t) (drop (equals_behind t + 2) t))
loose_bracket t r opens = go (before_closing (equals_behind t) (drop (equals_behind t + 2) t)) refl
  where
    go : (o : Option ℕ) → before_closing (equals_behind t) (drop (equals_behind t + 2) t) ≡ o → Loose t r (elim o as (λ x. Result Piece ℕ) [ None ↦ Err 2 | Some n ↦ Ok (long_string (take n (drop (equals_behind t + 2) t)) (equals_behind t + 2 + n + (equals_behind t + 2))) ])
    go None e = tt
    go (Some n) e = bracketed_stays t r n opens e

loose_comment : (t r : List ℕ) → (at t 0 == 45 && at t 1 == 45) ≡ true → Loose t r (long_piece long_comment (equals_behind (drop 2 t)) (drop (equals_behind (drop 2 t) + 2) (drop 2 t)))
loose_comment t r hyphens = go (before_closing (equals_behind (drop 2 t)) (drop (equals_behind (drop 2 t) + 2) (drop 2 t))) refl
  where
    go : (o : Option ℕ) → before_closing (equals_behind (drop 2 t)) (drop (equals_behind (drop 2 t) + 2) (drop 2 t)) ≡ o
        → Loose t r (elim o as (λ x. Result Piece ℕ) [ None ↦ Err 2 | Some n ↦ Ok (long_comment (take n (drop (equals_behind (drop 2 t) + 2) (drop 2 t))) (equals_behind (drop 2 t) + 2 + n + (equals_behind (drop 2 t) + 2))) ])
    go None e = tt
    go (Some n) e = λ opens. long_comment_stays t r n hyphens opens e

line_not_long : (t r : List ℕ) (size : ℕ) → opens_long (drop 2 t) ≡ false → Loose t r (Ok (no_token size))
line_not_long t r size e opens = absurd (true≢false (sym opens ∙ e))

loose : (t r : List ℕ) → 0 < length t → is_white (at t 0) ≡ false → Loose t r (piece_of t)
unfolding piece_of
loose t r h w =
    subst (Loose t r) (sym (cond-false _ _ _ w))
    (cond_both (is_letter (at t 0)) _ _ (Loose t r) (λ f. loose_word t r (take (prefix_len is_name_byte t) t) (prefix_len is_name_byte t) (is_keyword (take (prefix_len is_name_byte t) t)) (λ e. word_stays t r h w f e))
    (λ f. cond_both (is_numeral t) _ _ (Loose t r) (λ g. tt)
    (λ g. cond_both (is_quote (at t 0)) (string_of t) _ (Loose t r) (λ i. loose_string t r h w f i)
    (λ i. cond_both (opens_long t) _ _ (Loose t r) (λ j. loose_bracket t r j)
    (λ j. cond_both (at t 0 == 45 && at t 1 == 45) (comment_of (drop 2 t)) (mark_of t) (Loose t r)
    (λ k. cond_both (opens_long (drop 2 t)) _ _ (Loose t r) (λ m. loose_comment t r k) (λ m. line_not_long t r _ m))
    (λ k. cond_both (0 == mark_size t) (Err 4) _ (Loose t r) (λ none. tt) (λ some. tt)))))))

pub name_stays : (t r n : List ℕ) (size : ℕ) → 0 < length t → is_white (at t 0) ≡ false → piece_of t ≡ Ok (token_piece (Name n) size) → is_name_byte (at r 0) ≡ false → piece_of (take size t ++ r) ≡ Ok (token_piece (Name n) size)
name_stays t r n size h w e = subst (Loose t r) e (loose t r h w)

pub text_stays : (t r b : List ℕ) (size : ℕ) → 0 < length t → is_white (at t 0) ≡ false → piece_of t ≡ Ok (token_piece (Text b) size) → piece_of (take size t ++ r) ≡ Ok (token_piece (Text b) size)
text_stays t r b size h w e = subst (Loose t r) e (loose t r h w)

pub comment_stays : (t r : List ℕ) (size : ℕ) → 0 < length t → is_white (at t 0) ≡ false → piece_of t ≡ Ok (no_token size) → opens_long (drop 2 t) ≡ true → piece_of (take size t ++ r) ≡ Ok (no_token size)
comment_stays t r size h w e = subst (Loose t r) e (loose t r h w)

-- ---- marks of one byte

pub hash_stays : (r : List ℕ) → piece_of (35 ∷ r) ≡ Ok (token_piece (Mark (35 ∷ [])) 1)
unfolding piece_of
hash_stays r = refl

pub left_paren_stays : (r : List ℕ) → piece_of (40 ∷ r) ≡ Ok (token_piece (Mark (40 ∷ [])) 1)
unfolding piece_of
left_paren_stays r = refl

pub right_paren_stays : (r : List ℕ) → piece_of (41 ∷ r) ≡ Ok (token_piece (Mark (41 ∷ [])) 1)
unfolding piece_of
right_paren_stays r = refl

pub colon_stays : (r : List ℕ) → piece_of (58 ∷ r) ≡ Ok (token_piece (Mark (58 ∷ [])) 1)
unfolding piece_of
colon_stays r = refl

pub right_bracket_stays : (r : List ℕ) → piece_of (93 ∷ r) ≡ Ok (token_piece (Mark (93 ∷ [])) 1)
unfolding piece_of
right_bracket_stays r = refl

pub left_brace_stays : (r : List ℕ) → piece_of (123 ∷ r) ≡ Ok (token_piece (Mark (123 ∷ [])) 1)
unfolding piece_of
left_brace_stays r = refl

pub right_brace_stays : (r : List ℕ) → piece_of (125 ∷ r) ≡ Ok (token_piece (Mark (125 ∷ [])) 1)
unfolding piece_of
right_brace_stays r = refl

-- A point in front of what is neither a point nor a digit.
pub dot_stays : (r : List ℕ) → (at r 0 == 46) ≡ false → is_digit (at r 0) ≡ false → piece_of (46 ∷ r) ≡ Ok (token_piece (Mark (46 ∷ [])) 1)
unfolding piece_of
dot_stays r dot digit = cond-false _ _ _ digit ∙ size (mark_size (46 ∷ r)) (cond-false _ _ _ dot)
  where
    made : ℕ → Result Piece ℕ
    made n = if 0 == n then Err 4 else Ok (token_piece (Mark (take n (46 ∷ r))) n)

    size : (n : ℕ) → n ≡ 1 → made n ≡ Ok (token_piece (Mark (46 ∷ [])) 1)
    size n e = ap made e
