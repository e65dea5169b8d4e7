-- The functions of `math` on whole numbers (Lua 5.1 manual, 5.6).
use Rattle.std.specs.Prelude.{ℤ, pos, unsigned_abs, int_rem, int_lt, if◌then◌else◌, List, [], ◌∷◌, Option, Some, None, Result, Ok, Err}
use Rattle.lua_number.specs.declared.arithmetic.NumberFault.{NumberFault}
use Rattle.lua_number.specs.declared.arithmetic.NumberFault.TheVariants.{ByZero}
use Rattle.lua_number.specs.Whole.{in_range_or_fault, is_zero}

abbrev pub abs_of : ℤ → Result ℤ NumberFault
abs_of n = in_range_or_fault (pos (unsigned_abs n))

-- the rest of the division towards zero, which has the sign of a
abbrev pub fmod_of : ℤ → ℤ → Result ℤ NumberFault
fmod_of a b = if is_zero b then Err ByZero else Ok (int_rem a b)

abbrev pub greatest : ℤ → List ℤ → ℤ
greatest n [] = n
greatest n (m ∷ ms) = greatest (if int_lt n m then m else n) ms

abbrev pub least : ℤ → List ℤ → ℤ
least n [] = n
least n (m ∷ ms) = least (if int_lt m n then m else n) ms

abbrev pub max_of : List ℤ → Option ℤ
max_of [] = None
max_of (n ∷ ns) = Some (greatest n ns)

abbrev pub min_of : List ℤ → Option ℤ
min_of [] = None
min_of (n ∷ ns) = Some (least n ns)
