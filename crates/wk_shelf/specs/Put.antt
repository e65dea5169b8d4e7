-- What a sink holds after a piece was put.
use Rattle.std.specs.Prelude.{◌≡◌, ℕ, List, ◌++◌, take, Option, Some, None}

-- the piece stands at the end, where what was put is known
abbrev pub Puts : Option (List ℕ) → Option (List ℕ) → List ℕ → Type 0
Puts (Some old) (Some new) piece = new ≡ old ++ piece
Puts (Some old) None piece = ⊥
Puts None new piece = new ≡ None

-- some prefix of the piece stands at the end, where what was put is known
abbrev pub PutsSome : Option (List ℕ) → Option (List ℕ) → List ℕ → Type 0
PutsSome old new piece = (n : ℕ) × Puts old new (take n piece)
