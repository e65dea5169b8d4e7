-- CONSTANTS while code is made: the texts and names that were met, each once, in the order in which they were met first. Each has its
-- place among them as its number.
use Rattle.std.specs.Prelude.{◌≡◌, ℕ, List, map, slice_get, Some}
use Rattle.std.specs.Borrow.{Bor}
use Rattle.lua_code.specs.LuaMeaningScope.{Bytes}

abbrev pub bytes_of : List (Bor Bytes) → List Bytes
bytes_of met = map (λ (b : Bor Bytes). b.now) met

-- what had a number still has it
abbrev pub StayNumbered : List Bytes → List Bytes → Type 0
StayNumbered old new = (n : ℕ) (t : Bytes) → slice_get old n ≡ Some t → slice_get new n ≡ Some t
