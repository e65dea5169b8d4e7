-- Law: what `parse` says of a text determines its answer, but for want of memory.
use Rattle.std.specs.Prelude.{◌≡◌, ℕ, List, Ok, Err}
use Rattle.lua_syntax.specs.declared.Chunk.{Chunk}
use Rattle.lua_syntax.specs.declared.fault.FaultAt.{FaultAt}
use Rattle.lua_syntax.specs.declared.fault.SyntaxFault.TheVariants.{At}
use Rattle.lua_syntax.specs.View.{chunk_view}
use Rattle.lua_parser.specs.Chunks.{IsParsed}

-- Two chunks of one text are the same tree.
abbrev pub OneChunk : List ℕ → Type 0
OneChunk text = (c d : Chunk) → IsParsed (Ok c) text → IsParsed (Ok d) text → chunk_view c ≡ chunk_view d

-- Two faults of one text are the same.
abbrev pub OneFault : List ℕ → Type 0
OneFault text = (f g : FaultAt) → IsParsed (Err (At f)) text → IsParsed (Err (At g)) text → f ≡ g

-- A text has no chunk beside a fault.
abbrev pub ChunkOrFault : List ℕ → Type 0
ChunkOrFault text = (c : Chunk) (f : FaultAt) → IsParsed (Ok c) text → IsParsed (Err (At f)) text → ⊥
