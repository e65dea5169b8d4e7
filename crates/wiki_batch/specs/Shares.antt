-- WHAT IS MADE IN SHARES, put together.
use Rattle.std.specs.Prelude.{◌≡◌, ℕ, ◌*◌, ◌<◌, List, [], ◌∷◌, ◌++◌, length, take, drop, slice_index_or, Result, Ok, Err, IfOk}
use Rattle.wk_base.specs.declared.NoMemory.{NoMemory}

-- no part failed, and the items are those of the parts, in order
abbrev pub Joined : {T : Type 0} → List (Result (List T) NoMemory) → List T → Type 0
Joined [] all = all ≡ []
Joined (Err e ∷ parts) all = ⊥
Joined {T} (Ok xs ∷ parts) all = (rest : List T) × (all ≡ xs ++ rest) × Joined parts rest

-- so many items of a list, from those of the share with the number j on
abbrev pub share_at : {S : Type 0} → ℕ → ℕ → List S → List S
share_at size j xs = take size (drop (j * size) xs)

-- each part that did not fail is what R says of its share
abbrev pub AreShares : {S T : Type 0} → (List S → List T → Type 0) → ℕ → ℕ → List S → List (Result (List T) NoMemory) → Type 0
AreShares {S} {T} R size shares xs parts =
    (length parts ≡ shares) × ((j : ℕ) (d : Result (List T) NoMemory) → j < shares → IfOk (slice_index_or parts j d) (λ ys. R (share_at size j xs) ys))
