-- The values of the keys 1, 2, 3 and so on, as entries of a table.
use Rattle.std.specs.Prelude.{ℕ, ℤ, pos, ◌+◌, List, [], ◌∷◌}

module _ {V : Type 0} (number : ℤ → V) where
  -- each value with its key, where `before` keys stand in front of the first one
  abbrev pub numbered : ℕ → List V → List (V × V)
  numbered before [] = []
  numbered before (v ∷ vs) = (number (pos (before + 1)), v) ∷ numbered (before + 1) vs
