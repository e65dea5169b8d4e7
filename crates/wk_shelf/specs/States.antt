-- What is known of a shelf and of a sink in memory.
use Rattle.std.specs.Prelude.{ℕ, ◌+◌, ◌-◌, ◌^◌, Bool, ◌||◌, ◌==◌, nat_lt, List, length, min, if◌then◌else◌}
use Rattle.std.specs.List.{list_any}
use Rattle.wk_shelf.specs.Files.{StoredFile}

-- `fail` has the numbers of the calls that fail, and the next call has the number `calls`
pub record ShelfState : Type 0 where
  pub files : List StoredFile
  pub fail : List ℕ
  pub calls : ℕ
  pub faults : ℕ

-- `room` is how many bytes it can hold
pub record SinkState : Type 0 where
  pub bytes : List ℕ
  pub fail : List ℕ
  pub calls : ℕ
  pub faults : ℕ
  pub room : ℕ

-- a count stays at the last number of 64 bits
abbrev pub next_count : ℕ → ℕ
next_count n = min (n + 1) (2 ^ 64 - 1)

abbrev pub is_listed : List ℕ → ℕ → Bool
is_listed fail n = list_any (λ m. m == n) fail

-- a put fails by its number, or where the piece doesn't fit
abbrev pub put_fails : SinkState → List ℕ → Bool
put_fails s piece = is_listed s.fail s.calls || nat_lt (s.room - length s.bytes) (length piece)

-- after a call: it is counted, and where it failed its fault too
abbrev pub counted : ShelfState → ShelfState
counted s = record s { calls = next_count s.calls; faults = if is_listed s.fail s.calls then next_count s.faults else s.faults }
