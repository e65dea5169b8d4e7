-- Laws: a list of tokens has one first fault at most, and none where it spells a chunk.
use Rattle.std.specs.Prelude.{◌≡◌, ℕ, ◌≤◌, List}
use Rattle.lua_lexer.specs.declared.token.Token.{Token}
use Rattle.lua_lexer.specs.LuaSyntaxTree.{Block}
use Rattle.lua_grammar.specs.Grammar.{IsChunk, Begins, FirstFault}

-- What begins a chunk with m tokens does so with fewer.
abbrev pub FewerBegin : Type 0
FewerBegin = (tokens : List Token) (f n m : ℕ) → n ≤ m → Begins tokens f m → Begins tokens f n

-- Two first faults are the same, in kind and place.
abbrev pub OneFault : Type 0
OneFault = (tokens : List Token) (k l i j : ℕ) → FirstFault tokens k i → FirstFault tokens l j → (k ≡ l) × (i ≡ j)

-- Where a first fault is, no chunk is.
abbrev pub FaultOrChunk : Type 0
FaultOrChunk = (tokens : List Token) (k i : ℕ) (b : Block) → FirstFault tokens k i → IsChunk tokens b → ⊥
