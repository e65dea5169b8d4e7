-- A text that closes each mark, one symbol further on.
use Rattle.std.proofs.Common.{ℕ, ◌+◌, Option, Some, None}

abbrev pub later : ℕ → ℕ → Option (ℕ × ℕ) → Option (ℕ × ℕ)
later n m None = None
later n m (Some p) = Some (n + p.0, m + p.1)
