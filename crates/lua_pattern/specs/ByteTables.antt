-- A table with a bit for each byte: four words of 64 bits.
use Rattle.std.specs.Prelude.{ℕ, ◌/◌, ◌%◌, ◌==◌, Bool, List, slice_index}
use Rattle.std.specs.Int.{bit_at}

-- The table has a byte.
abbrev pub table_has : List ℕ → ℕ → Bool
table_has words c = bit_at (slice_index words (c / 64)) (c % 64) == 1
