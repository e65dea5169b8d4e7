-- WHICH VALUES `select` LEAVES OUT in front (manual 5.1): place n leaves out n - 1 of so many, and -n leaves n of them. None where there
-- is no such place.
use Rattle.std.specs.Prelude.{ℕ, zero, suc, ◌-◌, ℤ, pos, negsuc, Option, Some, None, if◌then◌else◌, nat_lt}

abbrev pub left_out : ℤ → ℕ → Option ℕ
left_out (pos zero) count = None
left_out (pos (suc n)) count = if nat_lt n count then Some n else Some count
left_out (negsuc n) count = if nat_lt n count then Some (count - suc n) else None
