-- What the private functions answer, beside the definitions of what stands in a text. Want of memory says nothing.
use Rattle.std.specs.Prelude.{◌≡◌, ℕ, ◌≤◌, List, Result, Ok, Err}
use Rattle.lua_lexer.specs.declared.token.Stop.{Stop}
use Rattle.lua_lexer.specs.declared.token.Stop.TheVariants.{Fault, NoMemory}
use Rattle.lua_lexer.specs.declared.token.Piece.{Piece}
use Rattle.lua_lexer.specs.declared.strings.StringBody.{StringBody}
use Rattle.lua_lexer.specs.declared.strings.EscapeByte.{EscapeByte}
use Rattle.lua_syntax.specs.declared.fault.SyntaxFault.{SyntaxFault}
use Rattle.lua_syntax.specs.declared.fault.SyntaxFault.TheVariants.{At, NoMemory as WantOfMemory}
use Rattle.lua_lexer.specs.declared.token.Token.{Token}
use Rattle.lua_lexer.specs.Lexis.{Lexes, FirstFault, Escape, Gives, Wrong, Body, Closed, Open}

abbrev pub IsBody : Result StringBody Stop → Body → Type 0
IsBody (Ok b) x = x ≡ Closed b.bytes.items b.size
IsBody (Err (Fault k)) x = x ≡ Open k
IsBody (Err NoMemory) x = Unit {0}

abbrev pub IsEscape : Result EscapeByte Stop → Escape → Type 0
IsEscape (Ok e) x = (x ≡ Gives e.byte e.size) × (2 ≤ e.size) × (e.size ≤ 4)
IsEscape (Err (Fault k)) x = x ≡ Wrong k
IsEscape (Err NoMemory) x = ⊥

abbrev pub IsPiece : Result Piece Stop → Result Piece ℕ → Type 0
IsPiece (Ok p) x = x ≡ Ok p
IsPiece (Err (Fault k)) x = x ≡ Err k
IsPiece (Err NoMemory) x = Unit {0}

-- The answer of `lex`: the tokens of the text, or its first fault.
abbrev pub IsLexed : Result (List Token) SyntaxFault → List ℕ → Type 0
IsLexed (Ok tokens) text = Lexes text tokens
IsLexed (Err (At f)) text = FirstFault text f.kind f.line
IsLexed (Err WantOfMemory) text = Unit {0}

abbrev pub IsStop : SyntaxFault → Stop → ℕ → Type 0
IsStop (At f) (Fault k) line = (f.kind ≡ k) × (f.line ≡ line)
IsStop WantOfMemory NoMemory line = Unit {0}
IsStop (At f) NoMemory line = ⊥
IsStop WantOfMemory (Fault k) line = ⊥

-- Two lists of tokens of one text are the same.
abbrev pub OneList : List ℕ → Type 0
OneList text = (tokens others : List Token) → Lexes text tokens → Lexes text others → tokens ≡ others

-- A text with a first fault has no list of tokens.
abbrev pub NoListWithFault : List ℕ → Type 0
NoListWithFault text = (tokens : List Token) (kind line : ℕ) → Lexes text tokens → FirstFault text kind line → ⊥

-- Two first faults of one text are the same.
abbrev pub OneFault : List ℕ → Type 0
OneFault text = (kind line other_kind other_line : ℕ) → FirstFault text kind line → FirstFault text other_kind other_line → (kind ≡ other_kind) × (line ≡ other_line)
