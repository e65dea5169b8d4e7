-- A text as pieces in a row.
use Rattle.std.specs.Prelude.{ℕ, List}
use Rattle.std.specs.List.{flat_map}
use Rattle.expand_texts.specs.declared.rope.Piece.{Piece}
use Rattle.expand_texts.specs.declared.rope.Piece.TheVariants.{Borrowed, Owned}

abbrev pub bytes_of : Piece → List ℕ
bytes_of (Borrowed bytes) = bytes.now
bytes_of (Owned bytes) = bytes.items

-- THE TEXT of a rope
abbrev pub joined : List Piece → List ℕ
joined pieces = flat_map bytes_of pieces
