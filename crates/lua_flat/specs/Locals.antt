-- LOCAL VARIABLES of a function that are open, the newest first: each has a register, with its value or with the number of its cell.
use Rattle.std.specs.Prelude.{ℕ, ◌+◌, Bool, true, false, List, [], ◌∷◌}

pub data Local : Type 0 where
  PlainL : (register : ℕ) → Local
  CellL : (register : ℕ) → Local

abbrev pub local_of : Bool → ℕ → Local
local_of true r = CellL r
local_of false r = PlainL r

abbrev pub register_of : Local → ℕ
register_of (PlainL r) = r
register_of (CellL r) = r

-- so many new variables from a register on, above those that are open
abbrev pub with_row : ℕ → List Bool → List Local → List Local
with_row r [] locals = locals
with_row r (b ∷ flags) locals = with_row (r + 1) flags (local_of b r ∷ locals)
