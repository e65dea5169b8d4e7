-- WHAT STAYS THE SAME in front of other bytes: the piece at the front of a text (manual 2.1), where the byte behind it can't go on with it.
use Rattle.std.specs.Prelude.{◌≡◌, ℕ, ◌+◌, ◌<◌, ◌≤◌, true, false, ◌==◌, ◌&&◌, ◌||◌, List, ◌++◌, length, take, drop, Result, Ok, Err}
use Rattle.lua_lexer.specs.WkBaseSpace.{is_white}
use Rattle.lua_lexer.specs.declared.token.TokenKind.TheVariants.{Name, Text}
use Rattle.lua_lexer.specs.declared.token.Piece.{Piece}
use Rattle.lua_lexer.specs.Lexis.{at, is_break, is_digit, is_name_byte, is_number_byte, is_equals, opens_long, no_token, token_piece, piece_of}

-- Neither e, E nor a sign: no exponent of a numeral goes on with it.
abbrev pub ends_exponent : ℕ → Type 0
ends_exponent c = (((c == 101) || (c == 69)) ≡ false) × (((c == 43) || (c == 45)) ≡ false)

-- Neither . nor =: no mark goes on with it.
abbrev pub ends_mark : ℕ → Type 0
ends_mark c = ((c == 46) ≡ false) × ((c == 61) ≡ false)

-- A byte with which no piece goes on, but a comment to the end of its line, and white space.
pub record Ends (c : ℕ) : Type 0 where
  pub name : is_name_byte c ≡ false
  pub number : is_number_byte c ≡ false
  pub digit : is_digit c ≡ false
  pub exponent : ends_exponent c
  pub mark : ends_mark c
  pub hyphen : (c == 45) ≡ false
  pub bracket : (c == 91) ≡ false
  pub equals : is_equals c ≡ false

-- The piece, if there is one, has the same bytes in front of the text r.
abbrev pub Stays : List ℕ → List ℕ → Result Piece ℕ → Type 0
Stays t r (Ok p) = piece_of (take p.size t ++ r) ≡ Ok p
Stays t r (Err fault) = Unit {0}

-- A comment to the end of its line goes on up to a line break.
abbrev pub IsLineEnded : List ℕ → ℕ → Type 0
IsLineEnded t c = (at t 0 == 45 && at t 1 == 45) ≡ true → opens_long (drop 2 t) ≡ false → is_break c ≡ true

-- EACH PIECE but white space stays the same in front of a byte that goes on with none.
abbrev pub PiecesStay : Type 0
PiecesStay = (t r : List ℕ) → 0 < length t → is_white (at t 0) ≡ false → Ends (at r 0) → IsLineEnded t (at r 0) → Stays t r (piece_of t)

-- A piece has a byte at least, and no more than there are.
abbrev pub PiecesFit : Type 0
PiecesFit = (t : List ℕ) (p : Piece) → 0 < length t → piece_of t ≡ Ok p → (0 < p.size) × (p.size ≤ length t)

-- A NAME stays the same in front of a byte that is none of a name; A STRING, and A LONG COMMENT, in front of any.
abbrev pub NamesStay : Type 0
NamesStay = (t r n : List ℕ) (size : ℕ) → 0 < length t → is_white (at t 0) ≡ false → piece_of t ≡ Ok (token_piece (Name n) size) → is_name_byte (at r 0) ≡ false → piece_of (take size t ++ r) ≡ Ok (token_piece (Name n) size)

abbrev pub StringsStay : Type 0
StringsStay = (t r b : List ℕ) (size : ℕ) → 0 < length t → is_white (at t 0) ≡ false → piece_of t ≡ Ok (token_piece (Text b) size) → piece_of (take size t ++ r) ≡ Ok (token_piece (Text b) size)

abbrev pub LongCommentsStay : Type 0
LongCommentsStay = (t r : List ℕ) (size : ℕ) → 0 < length t → is_white (at t 0) ≡ false → piece_of t ≡ Ok (no_token size) → opens_long (drop 2 t) ≡ true → piece_of (take size t ++ r) ≡ Ok (no_token size)
