-- The facts of chunks, as the contracts say them.
use Rattle.std.proofs.Common.{ℕ, List, length, arith, lit≤}
use Rattle.lua_lexer.specs.declared.token.Token.{Token}
use Rattle.lua_lexer.specs.LuaSyntaxTree.{Block}
use Rattle.lua_grammar.specs.Grammar.{given_tokens, SpellsChunk, IsChunk, outside}
use Rattle.lua_grammar.specs.FactLaws.{ChunkFits, ChunkIsLow, TreesAreLow, NodesAreShallow}
use Rattle.lua_grammar.proofs.Rules.{RuledBlock}
use Rattle.lua_grammar.proofs.Productions as productions
use Rattle.lua_grammar.proofs.Joined as joined
use Rattle.lua_grammar.proofs.HeightLemmas.{exp, exps, fields, fun, block, arms, stat, exp-shallow, stat-shallow}

ruled : (tokens : List Token) (b : Block) → IsChunk tokens b → (rule : ℕ) → RuledBlock rule outside b
unfolding IsChunk SpellsChunk
ruled tokens b h rule = let d = h rule in (productions.block (given_tokens tokens (length tokens) rule) outside b 0 d.0 d.1 (omega (arith, d.2.1))).1

pub chunk_fits : ChunkFits
chunk_fits tokens b h = joined.block outside b (ruled tokens b h)

pub trees_are_low : TreesAreLow
trees_are_low = (exp, stat, exps, fields, fun, block, arms)

pub nodes_are_shallow : NodesAreShallow
nodes_are_shallow = (exp-shallow, stat-shallow)

pub chunk_is_low : ChunkIsLow
chunk_is_low tokens b h = let low = block outside b (chunk_fits tokens b h) (lit≤ tt) in omega (arith, low)
