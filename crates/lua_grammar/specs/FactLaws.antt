-- Laws: what holds of the tree of every chunk.
use Rattle.std.specs.Prelude.{ℕ, ◌+◌, ◌≤◌, List}
use Rattle.lua_lexer.specs.declared.token.Token.{Token}
use Rattle.lua_lexer.specs.LuaSyntaxTree.{Exp, Exps, Fields, Fun, Block, Arms, Stat}
use Rattle.lua_grammar.specs.declared.Context.{Context}
use Rattle.lua_grammar.specs.Grammar.{IsChunk}
use Rattle.lua_grammar.specs.Facts.{FitsChunk, FitsExp, FitsExps, FitsFields, FitsFun, FitsBlock, FitsArms, FitsStat, IsShallow}
use Rattle.lua_grammar.specs.Heights.{exp_height, exps_height, fields_height, fun_height, block_height, arms_height, stat_height}

-- What is spelled as a chunk fits as one.
abbrev pub ChunkFits : Type 0
ChunkFits = (tokens : List Token) (b : Block) → IsChunk tokens b → FitsChunk b

-- It has at most 201 levels of nodes.
abbrev pub ChunkIsLow : Type 0
ChunkIsLow = (tokens : List Token) (b : Block) → IsChunk tokens b → block_height b ≤ 201

-- A tree that fits somewhere has at most 201 levels with the nodes above it. Where it may be empty, no more than 201 are above it.
abbrev pub IsLow : Context → ℕ → Type 0
IsLow w height = w.above + height ≤ 201

abbrev pub TreesAreLow : Type 0
TreesAreLow =
    ((w : Context) (e : Exp) → FitsExp w e → IsLow w (exp_height e))
    × ((w : Context) (s : Stat) → FitsStat w s → IsLow w (stat_height s))
    × ((w : Context) (es : Exps) → FitsExps w es → w.above ≤ 201 → IsLow w (exps_height es))
    × ((w : Context) (fs : Fields) → FitsFields w fs → w.above ≤ 201 → IsLow w (fields_height fs))
    × ((w : Context) (f : Fun) → FitsFun w f → w.above ≤ 201 → IsLow w (fun_height f))
    × ((w : Context) (b : Block) → FitsBlock w b → w.above ≤ 201 → IsLow w (block_height b))
    × ((w : Context) (arms : Arms) → FitsArms w arms → w.above ≤ 201 → IsLow w (arms_height arms))

-- A node that fits somewhere has at most 200 nodes above it, whatever node it is.
abbrev pub NodesAreShallow : Type 0
NodesAreShallow = ((w : Context) (e : Exp) → FitsExp w e → IsShallow w) × ((w : Context) (s : Stat) → FitsStat w s → IsShallow w)
