-- WHAT CALLS GAVE, each with its number.
use Rattle.std.specs.Prelude.{ℕ, ◌<◌, All, List, Option, None, Result, IfOk, IfSome, slice_index_or}
use Rattle.wk_base.specs.declared.NoMemory.{NoMemory}
use denote.Param.Members.{Shared}
use Rattle.std.specs.Fn.{FnReturns}
use Rattle.wk_workers.specs.declared.taking.Given.{Given}

-- what stands in a place has P of the place's number
abbrev pub AllPlaced : {X : Type 0} → (ℕ → X → Type 0) → List (Option X) → Type 0
AllPlaced P places = (i : ℕ) → IfSome (slice_index_or places i None) (P i)

module _ {F X : Type 0} (g : Shared F (ℕ × Unit {0}) X) (f : F) where
  -- x is a value that f may give with the number i
  abbrev pub Gives : ℕ → X → Type 0
  Gives i x = FnReturns g f (i, tt) x

  -- the value is one that f may give with the number, which is one of the first `count`
  abbrev pub IsGiven : ℕ → Given X → Type 0
  IsGiven count given = (given.number < count) × Gives given.number given.value

  -- so is all that workers gave which did not lack memory
  abbrev pub AreGiven : ℕ → List (Result (List (Given X)) NoMemory) → Type 0
  AreGiven count parts = All (λ part. IfOk part (λ given. All (IsGiven count) given)) parts
