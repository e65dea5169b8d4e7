-- What `parse` answers.
use Rattle.std.specs.Prelude.{◌≡◌, ℕ, ◌⊎◌, List, Result, Ok, Err}
use Rattle.lua_syntax.specs.declared.Chunk.{Chunk}
use Rattle.lua_syntax.specs.declared.Block.{Block as BlockNode}
use Rattle.lua_syntax.specs.declared.fault.SyntaxFault.{SyntaxFault}
use Rattle.lua_syntax.specs.declared.fault.SyntaxFault.TheVariants.{At as AtLine, NoMemory as WantOfMemory}
use Rattle.lua_lexer.specs.declared.token.Token.{Token}
use Rattle.lua_lexer.specs.Lexis.{Lexes, FirstFault as FirstLexFault}
use Rattle.lua_reading.specs.LuaGrammarTokens.{tok_at}
use Rattle.lua_syntax.specs.Tree.{Block}
use Rattle.lua_reading.specs.LuaGrammarGrammar.{IsChunk, FirstFault}
use Rattle.lua_syntax.specs.View.{block_view, chunk_view}
use Rattle.lua_reading.specs.declared.answer.Fault.{Fault}
use Rattle.lua_reading.specs.declared.answer.Fault.TheVariants.{At, NoMemory}

-- The tokens spell this chunk and no other.
abbrev pub IsTheChunk : List Token → Block → Type 0
IsTheChunk ts b = IsChunk ts b × ((c : Block) → IsChunk ts c → c ≡ b)

-- The tokens have this first fault, at this place, and spell no chunk.
abbrev pub IsTheFault : List Token → ℕ → ℕ → Type 0
IsTheFault ts kind place = FirstFault ts kind place × ((c : Block) → IsChunk ts c → ⊥)

abbrev pub ChunkAnswer : List Token → Result BlockNode Fault → Type 0
ChunkAnswer ts (Ok b) = IsTheChunk ts (block_view b)
ChunkAnswer ts (Err (At f)) = IsTheFault ts f.kind f.place
ChunkAnswer ts (Err NoMemory) = Unit {0}

-- The chunk of a text; or its fault, with the line where it stands. Want of memory says nothing.
abbrev pub IsParsed : Result Chunk SyntaxFault → List ℕ → Type 0
IsParsed (Ok c) text = (tokens : List Token) × Lexes text tokens × IsTheChunk tokens (chunk_view c)
IsParsed (Err (AtLine f)) text =
    FirstLexFault text f.kind f.line ⊎ ((tokens : List Token) × Lexes text tokens × ((place : ℕ) × IsTheFault tokens f.kind place × (f.line ≡ (tok_at tokens place).line)))
IsParsed (Err WantOfMemory) text = Unit {0}
