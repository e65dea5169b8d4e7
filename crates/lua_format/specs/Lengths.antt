-- Lengths of answers that can be asked for before they are made.
use Rattle.std.specs.Prelude.{ℕ, ◌-◌, ◌^◌, min}

-- a length, or where it is greater, the greatest number of 64 bits
abbrev pub saturated : ℕ → ℕ
saturated n = min n (2 ^ 64 - 1)
