-- WHAT STANDS BESIDE WHAT among the tokens of a chunk (manual 8): in front of a point what can be indexed, behind it a name, and behind [ no =.
use Rattle.std.specs.Prelude.{◌≡◌, ℕ, suc, ◌<◌, List, length}
use Rattle.lua_lexer.specs.declared.token.Token.{Token}
use Rattle.lua_syntax.specs.Tree.{Block}
use Rattle.lua_grammar.specs.declared.TokenClass.{TokenClass}
use Rattle.lua_grammar.specs.declared.TokenClass.TheVariants.{Name, Text, EqEq, Assign, RightParen, RightBrace, LeftBracket, RightBracket, Dot}
use Rattle.lua_grammar.specs.Tokens.{class_at}
use Rattle.lua_grammar.specs.Grammar.{IsChunk}

-- A point stands behind these.
abbrev pub Indexed : TokenClass → Type 0
Indexed Name = Unit {0}
Indexed Text = Unit {0}
Indexed RightParen = Unit {0}
Indexed RightBracket = Unit {0}
Indexed RightBrace = Unit {0}
Indexed class = ⊥

-- Neither = nor ==.
abbrev pub NoEquals : TokenClass → Type 0
NoEquals Assign = ⊥
NoEquals EqEq = ⊥
NoEquals class = Unit {0}

-- How one token may stand behind another.
pub record Fits (before class : TokenClass) : Type 0 where
  pub dot : class ≡ Dot → Indexed before
  pub behind_dot : before ≡ Dot → class ≡ Name
  pub behind_bracket : before ≡ LeftBracket → NoEquals class

abbrev pub AreNeighbours : List Token → Type 0
AreNeighbours ts = (m : ℕ) → suc m < length ts → Fits (class_at ts m) (class_at ts (suc m))

-- THE TOKENS OF A CHUNK stand so beside one another.
abbrev pub NeighboursFit : Type 0
NeighboursFit = (ts : List Token) (b : Block) → IsChunk ts b → AreNeighbours ts
