-- What two loops keep: the comparisons of `trim` from one end, and the pieces of `encode`.
use Rattle.std.proofs.Common.{◌≡◌, ℕ, ◌+◌, ◌-◌, ◌≤◌, Bool, List, ◌++◌, length}
use Rattle.std.specs.List.{flat_map}
use Rattle.mw_text.specs.Trim.{skipped, looked}

-- what is left to look at, and how many tries are left
pub record Looks (goes : ℕ → Bool) (budget left : ℕ) (whole rest : List ℕ) : Type 0 where
  pub skips : skipped goes rest ≡ skipped goes whole
  pub within : left ≤ budget
  pub looks : budget - left + looked goes rest ≡ looked goes whole

-- what has been made of the code points in front, and what is left of the budget
pub record Encodes (piece : ℕ → List ℕ) (budget left : ℕ) (whole rest made : List ℕ) : Type 0 where
  pub text : made ++ flat_map piece rest ≡ flat_map piece whole
  pub paid : left + length made + length whole ≡ budget + length rest
