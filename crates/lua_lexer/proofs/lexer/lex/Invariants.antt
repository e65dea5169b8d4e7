use Rattle.std.proofs.Common.{◌≡◌, ◌≤◌, ◌+◌, ℕ, List, ◌++◌, length}
use Rattle.lua_lexer.specs.declared.token.Piece.{Piece}
use Rattle.lua_lexer.specs.declared.token.Token.{Token}
use Rattle.lua_lexer.specs.Lexis.{Spells, Stops, Lexes, FirstFault}
use Rattle.lua_lexer.proofs.lexer.lex.Given as goal

abbrev pub invariant-loop-left : goal.invariant-loop-left
invariant-loop-left l = record {
  spells : (ps : List Piece) (ts : List Token) → Spells l.left ps l.place l.line ts → Lexes l.text (l.tokens ++ ts);
  stops : (ps : List Piece) (kind line : ℕ) → Stops l.left ps l.line kind line → FirstFault l.text kind line;
  sum : l.place + length l.left ≡ length l.text;
  lines : l.line ≤ l.place + 1;
}

abbrev pub decreases-loop-left : goal.decreases-loop-left
decreases-loop-left l = length l.left
