-- THE ITEMS OF A TEXT of Lua: its tokens but the end, and the comments between them (manual 2.1), each with its bytes as they stand and with
-- the white space before it.
use Rattle.std.specs.Prelude.{ℕ, zero, suc, ◌==◌, if◌then◌else◌, List, [], ◌∷◌, length, take, drop, Option, Some, None, Result, Ok, Err}
use Rattle.lua_lexer.specs.WkBaseSpace.{is_white}
use Rattle.lua_lexer.specs.Lexis.{at, breaks, piece_of}
use Rattle.lua_lexer.specs.declared.token.Piece.{Piece}
use Rattle.lua_lexer.specs.declared.token.TokenKind.{TokenKind}
use Rattle.lua_reading.specs.LuaGrammarDeclaredTokenClass.{TokenClass}
use Rattle.lua_reading.specs.LuaGrammarTokens.{kind_class}
use Rattle.lua_print.specs.declared.items.Gap.{Gap}
use Rattle.lua_print.specs.declared.items.Gap.TheVariants.{First, Beside, Below, Apart}

-- An item: the white space before it, what it is to the grammar (a comment is nothing), and its bytes. A comment to the end of its line is
-- without the line break.
pub record Item : Type 0 where
  pub gap : Gap
  pub class : Option TokenClass
  pub bytes : List ℕ

abbrev pub item : Gap → Option TokenClass → List ℕ → Item
item gap class bytes = record { gap = gap; class = class; bytes = bytes }

-- ---- white space

-- white space with so many line breaks: none, one, or more
abbrev pub gap_of : ℕ → Gap
gap_of n = if n == 0 then Beside else (if n == 1 then Below else Apart)

-- what stands before the next item, once white space with so many line breaks is passed over; before the first item nothing counts
abbrev pub behind_space : Gap → ℕ → Gap
behind_space First n = First
behind_space _ n = gap_of n

-- ---- the pieces of a text

abbrev pub each_piece : Result Piece ℕ → (Piece → List Piece) → List Piece
each_piece (Ok p) further = further p
each_piece (Err fault) further = []

-- so many at most, up to a place where none stands
unfoldable pub pieces_by : ℕ → List ℕ → List Piece
pieces_by zero text = []
pieces_by (suc n) text = each_piece (piece_of text) (λ p. p ∷ pieces_by n (drop p.size text))

-- No piece is empty.
abbrev pub pieces_of : List ℕ → List Piece
pieces_of text = pieces_by (length text) text

-- ---- the items

-- a token, a comment, or white space, and what follows it
abbrev pub with_piece : Option TokenKind → Gap → List ℕ → (Gap → List Item) → List Item
with_piece (Some kind) gap bytes further = item gap (Some (kind_class kind)) bytes ∷ further Beside
with_piece None gap bytes further =
    if is_white (at bytes 0) then further (behind_space gap (breaks bytes)) else item gap None bytes ∷ further Beside

unfoldable pub items_from : Gap → List ℕ → List Piece → List Item
items_from gap text [] = []
items_from gap text (p ∷ ps) = with_piece p.kind gap (take p.size text) (λ g. items_from g (drop p.size text) ps)

unfoldable pub items_of : List ℕ → List Item
items_of text = items_from First text (pieces_of text)
