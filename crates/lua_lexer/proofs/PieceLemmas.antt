-- What stands at the front of a text, case by case.
use Rattle.std.proofs.Common.{◌≡◌, ℕ, ◌+◌, ◌<◌, Bool, true, false, List, [], ◌∷◌, length, take, drop, refl, sym, ap, subst, ◌∙◌, arith}
use Rattle.std.proofs.lemmas.Bool.{cond-true, cond-false}
use Rattle.std.specs.Prelude.{Result, Ok, ◌==◌, ◌&&◌, ◌||◌}
use Rattle.std.specs.List.{prefix_len}
use Rattle.lua_lexer.specs.declared.token.Piece.{Piece}
use Rattle.lua_lexer.specs.declared.token.Stop.{Stop}
use Rattle.lua_lexer.specs.declared.token.TokenKind.TheVariants.{Number}
use Rattle.lua_syntax.specs.WkBaseSpace.{is_white}
use Rattle.lua_lexer.specs.Lexis.{at, is_letter, is_digit, is_numeral, is_name_byte, is_number_byte, is_quote, no_token, token_piece, word_kind, numeral_size, comment_of, string_of, mark_of, opens_long, equals_behind, long_piece, long_string, piece_of}
use Rattle.lua_lexer.specs.Answers.{IsPiece}

pub first_is : (P : ℕ → Bool) (t : List ℕ) (b : ℕ) (r v : Bool) → b ≡ at t 0 → r ≡ P b → r ≡ v → P (at t 0) ≡ v
first_is P t b r v e p x = ap P (sym e) ∙ sym p ∙ x

pub same_piece : (r : Result Piece Stop) (x y : Result Piece ℕ) → x ≡ y → IsPiece r y → IsPiece r x
same_piece r x y e h = subst (λ (z : Result Piece ℕ). IsPiece r z) (sym e) h

pub at_space : (t : List ℕ) → is_white (at t 0) ≡ true → piece_of t ≡ Ok (no_token (prefix_len is_white t))
unfolding piece_of
at_space t s = cond-true _ _ _ s

pub at_letter : (t : List ℕ) → is_white (at t 0) ≡ false → is_letter (at t 0) ≡ true → piece_of t ≡ Ok (token_piece (word_kind (take (prefix_len is_name_byte t) t)) (prefix_len is_name_byte t))
unfolding piece_of
at_letter t s l = cond-false _ _ _ s ∙ cond-true _ _ _ l

pub at_numeral : (t : List ℕ) → is_white (at t 0) ≡ false → is_letter (at t 0) ≡ false → is_numeral t ≡ true → piece_of t ≡ Ok (token_piece (Number (take (numeral_size t) t)) (numeral_size t))
unfolding piece_of
at_numeral t s l n = cond-false _ _ _ s ∙ cond-false _ _ _ l ∙ cond-true _ _ _ n

pub at_quote : (t : List ℕ) → is_white (at t 0) ≡ false → is_letter (at t 0) ≡ false → is_numeral t ≡ false → is_quote (at t 0) ≡ true → piece_of t ≡ string_of t
unfolding piece_of
at_quote t s l n q = cond-false _ _ _ s ∙ cond-false _ _ _ l ∙ cond-false _ _ _ n ∙ cond-true _ _ _ q

pub at_bracket : (t : List ℕ) → is_white (at t 0) ≡ false → is_letter (at t 0) ≡ false → is_numeral t ≡ false → is_quote (at t 0) ≡ false → opens_long t ≡ true → piece_of t ≡ long_piece long_string (equals_behind t) (drop (equals_behind t + 2) t)
unfolding piece_of
at_bracket t s l n q o = cond-false _ _ _ s ∙ cond-false _ _ _ l ∙ cond-false _ _ _ n ∙ cond-false _ _ _ q ∙ cond-true _ _ _ o

pub at_comment : (t : List ℕ) → is_white (at t 0) ≡ false → is_letter (at t 0) ≡ false → is_numeral t ≡ false → is_quote (at t 0) ≡ false → opens_long t ≡ false → (at t 0 == 45 && at t 1 == 45) ≡ true → piece_of t ≡ comment_of (drop 2 t)
unfolding piece_of
at_comment t s l n q o c = cond-false _ _ _ s ∙ cond-false _ _ _ l ∙ cond-false _ _ _ n ∙ cond-false _ _ _ q ∙ cond-false _ _ _ o ∙ cond-true _ _ _ c

pub at_mark : (t : List ℕ) → is_white (at t 0) ≡ false → is_letter (at t 0) ≡ false → is_numeral t ≡ false → is_quote (at t 0) ≡ false → opens_long t ≡ false → (at t 0 == 45 && at t 1 == 45) ≡ false → piece_of t ≡ mark_of t
unfolding piece_of
at_mark t s l n q o c = cond-false _ _ _ s ∙ cond-false _ _ _ l ∙ cond-false _ _ _ n ∙ cond-false _ _ _ q ∙ cond-false _ _ _ o ∙ cond-false _ _ _ c

pub prefix_positive : (P : ℕ → Bool) (t : List ℕ) → 0 < length t → P (at t 0) ≡ true → 0 < prefix_len P t
prefix_positive P [] h p = absurd (omega arith)
prefix_positive P (c ∷ cs) h p = let one : prefix_len P (c ∷ cs) ≡ 1 + prefix_len P cs = cond-true (P c) _ _ p in omega (arith, one)

numeral_front : (t : List ℕ) → is_numeral t ≡ true → is_number_byte (at t 0) ≡ true
numeral_front t e = by_tests (is_digit (at t 0)) (at t 0 == 46) (is_digit (at t 1)) e
  where
    by_tests : (x y z : Bool) → (x || (y && z)) ≡ true → (x || y) ≡ true
    by_tests true y z h = refl
    by_tests false true z h = refl
    by_tests false false z h = h

pub numeral_positive : (t : List ℕ) → 0 < length t → is_numeral t ≡ true → 0 < numeral_size t
unfolding numeral_size
numeral_positive t h n = let front : 0 < prefix_len is_number_byte t = prefix_positive is_number_byte t h (numeral_front t n) in omega arith
