-- What the private functions of reading answer: numbers of at most 64 bits.
use Rattle.std.specs.Prelude.{ℕ, ◌^◌, if◌then◌else◌, nat_lt, Option, Some, None}

-- The number, if it is below 2^64.
abbrev pub in_word : Option ℕ → Option ℕ
in_word None = None
in_word (Some n) = if nat_lt n (2 ^ 64) then Some n else None
