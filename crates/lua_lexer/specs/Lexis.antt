-- The lexis of Lua (manual 2.1), by what stands at the front of the rest of a text.
-- Bytes are written by their codes: 10 is LF, 13 CR, 34 ", 39 ', 45 -, 46 ., 48 to 57 digits, 61 =, 91 [, 92 \, 93 ], 95 _.
use Rattle.std.specs.Prelude.{◌≡◌, ℕ, zero, suc, ◌+◌, ◌-◌, ◌*◌, ◌<◌, ◌&&◌, ◌||◌, ◌==◌, Bool, not, if◌then◌else◌, nat_le, List, [], ◌∷◌, ◌++◌, length, take, drop, slice_index_or, Option, Some, None, Result, Ok, Err, codes}
use Rattle.std.specs.List.{prefix_len, list_any}
use Rattle.std.specs.Cmp.Lexicographic.{pointwise}
use Rattle.lua_syntax.specs.WkBaseSpace.{is_white}
use Rattle.lua_lexer.specs.declared.token.TokenKind.{TokenKind}
use Rattle.lua_lexer.specs.declared.token.TokenKind.TheVariants.{Name, Word, Mark, Number, Text, End}
use Rattle.lua_lexer.specs.declared.token.Token.{Token}
use Rattle.lua_lexer.specs.declared.token.Piece.{Piece}

-- The byte k places on, and 256 behind the last.
abbrev pub at : List ℕ → ℕ → ℕ
at text k = slice_index_or text k 256

-- ---- kinds of bytes

abbrev pub is_break : ℕ → Bool
is_break c = c == 10 || c == 13

abbrev pub is_digit : ℕ → Bool
is_digit c = nat_le 48 c && nat_le c 57

abbrev pub is_letter : ℕ → Bool
is_letter c = (nat_le 97 c && nat_le c 122) || ((nat_le 65 c && nat_le c 90) || c == 95)

abbrev pub is_name_byte : ℕ → Bool
is_name_byte c = is_letter c || is_digit c

abbrev pub is_number_byte : ℕ → Bool
is_number_byte c = is_digit c || c == 46

abbrev pub is_quote : ℕ → Bool
is_quote c = c == 34 || c == 39

abbrev pub is_equals : ℕ → Bool
is_equals c = c == 61

-- ---- line breaks: LF, CR, CRLF or LFCR, each one line

-- The size of the line break at the front, or 0.
abbrev pub break_size : List ℕ → ℕ
break_size text = if is_break (at text 0) then (if is_break (at text 1) && not (at text 0 == at text 1) then 2 else 1) else 0

-- The text with LF for each line break, once that many bytes are passed over.
abbrev pub line_feeds_after : ℕ → List ℕ → List ℕ
line_feeds_after n [] = []
line_feeds_after (suc n) (c ∷ cs) = line_feeds_after n cs
line_feeds_after zero (c ∷ cs) = if is_break c then 10 ∷ line_feeds_after (break_size (c ∷ cs) - 1) cs else c ∷ line_feeds_after 0 cs

unfoldable pub with_line_feeds : List ℕ → List ℕ
with_line_feeds text = line_feeds_after 0 text

-- How many line breaks stand in the text, once that many bytes are passed over.
abbrev pub breaks_after : ℕ → List ℕ → ℕ
breaks_after n [] = 0
breaks_after (suc n) (c ∷ cs) = breaks_after n cs
breaks_after zero (c ∷ cs) = if is_break c then suc (breaks_after (break_size (c ∷ cs) - 1) cs) else breaks_after 0 cs

unfoldable pub breaks : List ℕ → ℕ
breaks text = breaks_after 0 text

-- ---- long brackets

-- How many = stand in the long bracket that opens at the front, if one does: [, any number of =, and [.
abbrev pub equals_behind : List ℕ → ℕ
equals_behind text = prefix_len is_equals (drop 1 text)

abbrev pub opens_long : List ℕ → Bool
opens_long text = at text 0 == 91 && at text (equals_behind text + 1) == 91

-- Whether ], that many =, and ] stand at the front.
abbrev pub closes_long : ℕ → List ℕ → Bool
closes_long level text = at text 0 == 93 && (equals_behind text == level && at text (level + 1) == 93)

-- How many bytes stand before the first closing bracket, if there is one.
abbrev pub one_later : Option ℕ → Option ℕ
one_later None = None
one_later (Some n) = Some (suc n)

abbrev pub before_closing : ℕ → List ℕ → Option ℕ
before_closing level [] = None
before_closing level (c ∷ cs) = if closes_long level (c ∷ cs) then Some 0 else one_later (before_closing level cs)

-- What stands between the brackets: a first line break is left out, and every other becomes LF.
unfoldable pub long_text : List ℕ → List ℕ
long_text inside = with_line_feeds (drop (break_size inside) inside)

-- ---- strings in quotes

-- A byte for which the text in a string stands, and how many bytes of the text these are; or a fault.
pub data Escape : Type 0 where
  Gives : ℕ → ℕ → Escape
  Wrong : ℕ → Escape

-- How many digits a decimal escape has: as many as stand there, but at most three.
abbrev pub escape_digits : List ℕ → ℕ
escape_digits text = if is_digit (at text 1) then (if is_digit (at text 2) then 3 else 2) else 1

abbrev pub escape_value : List ℕ → ℕ
escape_value text = if is_digit (at text 1) then (if is_digit (at text 2) then (at text 0 - 48) * 100 + (at text 1 - 48) * 10 + (at text 2 - 48) else (at text 0 - 48) * 10 + (at text 1 - 48)) else at text 0 - 48

-- \a \b \f \n \r \t \v, and any other byte for itself
abbrev pub escape_letter : ℕ → ℕ
escape_letter c = if c == 97 then 7 else (if c == 98 then 8 else (if c == 102 then 12 else (if c == 110 then 10 else (if c == 114 then 13 else (if c == 116 then 9 else (if c == 118 then 11 else c))))))

-- What stands behind a backslash.
abbrev pub escape_of : List ℕ → Escape
escape_of text =
    if nat_le 256 (at text 0) then Wrong 1
    else (if is_digit (at text 0) then (if nat_le (escape_value text) 255 then Gives (escape_value text) (escape_digits text + 1) else Wrong 3)
    else (if is_break (at text 0) then Gives 10 (break_size text + 1)
    else Gives (escape_letter (at text 0)) 2))

-- A whole string behind its opening quote: its bytes, and how many bytes of the text these are, the closing quote included.
pub data Body : Type 0 where
  Closed : List ℕ → ℕ → Body
  Open : ℕ → Body

abbrev pub behind_byte : Body → Body
behind_byte (Closed bytes size) = Closed bytes (suc size)
behind_byte (Open fault) = Open fault

abbrev pub with_byte : ℕ → Body → Body
with_byte b (Closed bytes size) = Closed (b ∷ bytes) (suc size)
with_byte b (Open fault) = Open fault

-- An escape, and what follows once the rest of it is passed over.
abbrev pub behind_escape : Escape → (ℕ → Body) → Body
behind_escape (Gives b size) further = with_byte b (further (size - 1))
behind_escape (Wrong fault) further = Open fault

-- The string goes on up to this quote, once that many bytes are passed over.
abbrev pub body_after : ℕ → ℕ → List ℕ → Body
body_after q n [] = Open 1
body_after q (suc n) (c ∷ cs) = behind_byte (body_after q n cs)
body_after q zero (c ∷ cs) =
    if c == q then Closed [] 1
    else (if is_break c then Open 1
    else (if c == 92 then behind_escape (escape_of cs) (λ n. body_after q n cs)
    else with_byte c (body_after q 0 cs)))

unfoldable pub string_body : ℕ → List ℕ → Body
string_body q text = body_after q 0 text

-- ---- words, numerals and marks

-- and break do else elseif end false for function if in local nil not or repeat return then true until while
abbrev pub keywords : List (List ℕ)
keywords =
    codes "and" ∷ codes "break" ∷ codes "do" ∷ codes "else" ∷ codes "elseif" ∷ codes "end" ∷ codes "false" ∷ codes "for" ∷ codes "function"
    ∷ codes "if" ∷ codes "in" ∷ codes "local" ∷ codes "nil" ∷ codes "not" ∷ codes "or" ∷ codes "repeat" ∷ codes "return" ∷ codes "then"
    ∷ codes "true" ∷ codes "until" ∷ codes "while" ∷ []

abbrev pub same : List ℕ → List ℕ → Bool
same = pointwise ◌==◌

abbrev pub is_keyword : List ℕ → Bool
is_keyword w = list_any (λ k. same w k) keywords

abbrev pub word_kind : List ℕ → TokenKind
word_kind w = if is_keyword w then Word w else Name w

-- e or E with a sign or none
abbrev pub exponent_size : List ℕ → ℕ
exponent_size text = if at text 0 == 101 || at text 0 == 69 then (if at text 1 == 43 || at text 1 == 45 then 2 else 1) else 0

-- All digits and points, then such an exponent mark or none, then all letters, digits and _.
unfoldable pub numeral_size : List ℕ → ℕ
numeral_size text =
    let digits = prefix_len is_number_byte text in
    let mark = exponent_size (drop digits text) in
    digits + mark + prefix_len is_name_byte (drop mark (drop digits text))

-- + - * / % ^ # ( ) { } [ ] ; : ,
abbrev pub is_single : ℕ → Bool
is_single c = (nat_le 40 c && nat_le c 45) || (c == 47 || (c == 37 || (c == 94 || (c == 35 || (c == 123 || (c == 125 || (c == 91 || (c == 93 || (c == 59 || c == 58)))))))))

-- The size of the longest mark at the front, or 0.
abbrev pub mark_size : List ℕ → ℕ
mark_size text =
    if at text 0 == 46 then (if at text 1 == 46 then (if at text 2 == 46 then 3 else 2) else 1)
    else (if at text 0 == 126 then (if at text 1 == 61 then 2 else 0)
    else (if at text 0 == 61 || (at text 0 == 60 || at text 0 == 62) then (if at text 1 == 61 then 2 else 1)
    else (if is_single (at text 0) then 1 else 0)))

-- ---- pieces

abbrev pub no_token : ℕ → Piece
no_token size = record { kind = None; size = size }

abbrev pub token_piece : TokenKind → ℕ → Piece
token_piece kind size = record { kind = Some kind; size = size }

-- A long bracket with that many = between [ and [, as what `made` gives for its inside and its size; 2 where it has no end.
abbrev pub long_piece : (List ℕ → ℕ → Piece) → ℕ → List ℕ → Result Piece ℕ
long_piece made level inside = elim (before_closing level inside) [ None ↦ Err 2 | Some n ↦ Ok (made (take n inside) (level + 2 + n + (level + 2))) ]

abbrev pub long_comment : List ℕ → ℕ → Piece
long_comment inside size = no_token (size + 2)

abbrev pub long_string : List ℕ → ℕ → Piece
long_string inside size = token_piece (Text (long_text inside)) size

-- A comment, of which the text is what follows its --.
abbrev pub comment_of : List ℕ → Result Piece ℕ
comment_of text =
    if opens_long text then long_piece long_comment (equals_behind text) (drop (equals_behind text + 2) text)
    else Ok (no_token (2 + prefix_len (λ c. not (is_break c)) text))

abbrev pub string_of : List ℕ → Result Piece ℕ
string_of text = elim (string_body (at text 0) (drop 1 text)) [ Closed bytes size ↦ Ok (token_piece (Text bytes) (size + 1)) | Open fault ↦ Err fault ]

abbrev pub mark_of : List ℕ → Result Piece ℕ
mark_of text = if 0 == mark_size text then Err 4 else Ok (token_piece (Mark (take (mark_size text) text)) (mark_size text))

abbrev pub is_numeral : List ℕ → Bool
is_numeral text = is_digit (at text 0) || (at text 0 == 46 && is_digit (at text 1))

-- The piece at the front of a text that is not empty, the longest that stands there, or the fault that is met on reading on:
-- 1 unfinished string, 2 unfinished long bracket, 3 escape above 255, 4 a byte that begins nothing.
unfoldable pub piece_of : List ℕ → Result Piece ℕ
piece_of text =
    if is_white (at text 0) then Ok (no_token (prefix_len is_white text))
    else (if is_letter (at text 0) then Ok (token_piece (word_kind (take (prefix_len is_name_byte text) text)) (prefix_len is_name_byte text))
    else (if is_numeral text then Ok (token_piece (Number (take (numeral_size text) text)) (numeral_size text))
    else (if is_quote (at text 0) then string_of text
    else (if opens_long text then long_piece long_string (equals_behind text) (drop (equals_behind text + 2) text)
    else (if at text 0 == 45 && at text 1 == 45 then comment_of (drop 2 text)
    else mark_of text)))))

-- ---- the whole text

abbrev pub end_token : ℕ → ℕ → Token
end_token place line = record { kind = End; start = place; end = place; line = line; end_line = line }

-- The token that a piece is, if it is one, from a place and a line on.
abbrev pub tokens_of : Piece → ℕ → ℕ → ℕ → List Token
tokens_of piece place line end_line = of_kind piece.kind
  where
    of_kind : Option TokenKind → List Token
    of_kind None = []
    of_kind (Some kind) = record { kind = kind; start = place; end = place + piece.size; line = line; end_line = end_line } ∷ []

-- The line behind a piece.
abbrev pub line_behind : Piece → List ℕ → ℕ → ℕ
line_behind piece text line = line + breaks (take piece.size text)

-- The text is these pieces in turn; the tokens are those among them, and End.
abbrev pub Spells : List ℕ → List Piece → ℕ → ℕ → List Token → Type 0
Spells text [] place line tokens = (text ≡ []) × (tokens ≡ end_token place line ∷ [])
Spells text (p ∷ ps) place line tokens =
    (0 < length text) × (piece_of text ≡ Ok p)
    × ((later : List Token) × (tokens ≡ tokens_of p place line (line_behind p text line) ++ later) × Spells (drop p.size text) ps (place + p.size) (line_behind p text line) later)

-- The text begins with these pieces, and then comes a place where none stands, with this fault, on this line.
abbrev pub Stops : List ℕ → List Piece → ℕ → ℕ → ℕ → Type 0
Stops text [] line kind fault_line = (0 < length text) × (piece_of text ≡ Err kind) × (fault_line ≡ line)
Stops text (p ∷ ps) line kind fault_line =
    (0 < length text) × (piece_of text ≡ Ok p) × Stops (drop p.size text) ps (line_behind p text line) kind fault_line

-- The tokens of a text: it is white space, comments and tokens in turn, from line 1 on.
abbrev pub Lexes : List ℕ → List Token → Type 0
Lexes text tokens = (ps : List Piece) × Spells text ps 0 1 tokens

-- The first fault of a text, and its line.
abbrev pub FirstFault : List ℕ → ℕ → ℕ → Type 0
FirstFault text kind line = (ps : List Piece) × Stops text ps 1 kind line
