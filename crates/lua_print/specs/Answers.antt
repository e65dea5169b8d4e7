-- What the functions answer. Want of memory says nothing.
use Rattle.std.specs.Prelude.{◌≡◌, ℕ, ◌+◌, ◌<◌, true, false, List, Option, Some, None, Result, Ok, Err}
use Rattle.lua_syntax.specs.declared.Chunk.{Chunk}
use Rattle.lua_syntax.specs.declared.fault.SyntaxFault.{SyntaxFault}
use Rattle.lua_syntax.specs.declared.fault.SyntaxFault.TheVariants.{At, NoMemory}
use Rattle.lua_lexer.specs.WkBaseSpace.{is_white}
use Rattle.lua_lexer.specs.declared.token.Piece.{Piece}
use Rattle.lua_lexer.specs.declared.token.Token.{Token}
use Rattle.lua_lexer.specs.declared.token.TokenKind.{TokenKind}
use Rattle.lua_lexer.specs.Lexis.{at, piece_of, no_token, token_piece, FirstFault}
use Rattle.lua_reading.specs.LuaGrammarDeclaredTokenClass.{TokenClass}
use Rattle.lua_reading.specs.LuaGrammarTokens.{kind_class}
use Rattle.lua_parser.specs.Chunks.{IsParsed}
use Rattle.lua_print.specs.declared.items.Front.{Front}
use Rattle.lua_print.specs.declared.items.Front.TheVariants.{Space, Shown}
use Rattle.lua_syntax.specs.View.{chunk_view}
use Rattle.lua_token_laws.specs.Twins.{relined}
use Rattle.lua_print.specs.Layout.{layout_of}

-- `parse` gives a chunk of the text.
abbrev pub HasChunk : List ℕ → Type 0
HasChunk text = (c : Chunk) × IsParsed (Ok c) text

-- THE ANSWER OF `layout`: a fault where `parse` gives one, and that one; else the layout of the text.
abbrev pub IsLayout : Result (List ℕ) SyntaxFault → List ℕ → Type 0
IsLayout (Ok bytes) text = HasChunk text × (bytes ≡ layout_of text)
IsLayout (Err (At f)) text = IsParsed (Err (At f)) text
IsLayout (Err NoMemory) text = Unit {0}

-- A chunk of other bytes is that chunk, lines aside: each line of the one is a line of the other. Want of memory says nothing.
abbrev pub IsSame : Result Chunk SyntaxFault → Chunk → Type 0
IsSame (Ok d) c = (lines : ℕ → ℕ) × (chunk_view d ≡ relined lines (chunk_view c))
IsSame (Err (At f)) c = ⊥
IsSame (Err NoMemory) c = Unit {0}

-- THE SAME CHUNK: whatever `parse` may answer to the bytes, where it gives a chunk of the text.
abbrev pub ParsesSame : List ℕ → List ℕ → Type 0
ParsesSame bytes text = (c : Chunk) (d : Result Chunk SyntaxFault) → IsParsed (Ok c) text → IsParsed d bytes → IsSame d c

-- Whether `parse` gives a chunk, or its fault.
abbrev pub IsChecked : Result Unit SyntaxFault → List ℕ → Type 0
IsChecked (Ok u) text = HasChunk text
IsChecked (Err (At f)) text = IsParsed (Err (At f)) text
IsChecked (Err NoMemory) text = Unit {0}

-- The layout of a text that is made of tokens, or its first fault.
abbrev pub IsArranged : Result (List ℕ) SyntaxFault → List ℕ → Type 0
IsArranged (Ok bytes) text = bytes ≡ layout_of text
IsArranged (Err (At f)) text = FirstFault text f.kind f.line
IsArranged (Err NoMemory) text = Unit {0}

-- What the piece at the front of a text is, by the place of the next token: this token, or one that stands behind it.
abbrev pub IsKind : ℕ → Token → Option TokenKind → ℕ → Type 0
IsKind place token (Some kind) size = (token.start ≡ place) × (token.end ≡ place + size) × (token.kind ≡ kind)
IsKind place token None size = place < token.start

abbrev pub IsNext : List ℕ → ℕ → Token → Type 0
IsNext text place token = (kind : Option TokenKind) × ((size : ℕ) × (piece_of text ≡ Ok (record { kind = kind; size = size })) × IsKind place token kind size)

-- What stands at the front of a text.
abbrev pub IsFront : Front → List ℕ → Type 0
IsFront (Space size) text = (piece_of text ≡ Ok (no_token size)) × (is_white (at text 0) ≡ true)
IsFront (Shown None size) text = (piece_of text ≡ Ok (no_token size)) × (is_white (at text 0) ≡ false)
IsFront (Shown (Some class) size) text = (kind : TokenKind) × (piece_of text ≡ Ok (token_piece kind size)) × (class ≡ kind_class kind)

-- How many tokens an item is.
abbrev pub tokens_in : Option TokenClass → ℕ
tokens_in None = 0
tokens_in (Some class) = 1

-- The comment of which the text is what follows its --, if it has an end.
abbrev pub IsComment : Option ℕ → Result Piece ℕ → Type 0
IsComment (Some size) comment = comment ≡ Ok (no_token size)
IsComment None comment = comment ≡ Err 2
