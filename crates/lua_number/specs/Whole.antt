-- Lua's operations on numbers (manual 2.5.1), over the whole numbers without bound.
-- Where the result is no whole number of 64 bits, the operation is refused.
use Rattle.std.specs.Prelude.{◌≡◌, ℕ, zero, suc, ◌^◌, ◌||◌, ℤ, pos, negsuc, ◌+ℤ◌, ◌-ℤ◌, ◌*ℤ◌, neg_ℤ, Bool, true, false, ◌<◌, if◌then◌else◌, nat_lt, int_div, int_rem, Result, Ok, Err}
use Rattle.std.specs.Int.{int_pow}
use Rattle.lua_number.specs.declared.arithmetic.NumberFault.{NumberFault}
use Rattle.lua_number.specs.declared.arithmetic.NumberFault.TheVariants.{OutOfRange, NotWhole, ByZero}

-- Whether it is a whole number from -2^63 to 2^63 - 1.
abbrev pub fits : ℤ → Bool
fits (pos n) = nat_lt n (2 ^ 63)
fits (negsuc n) = nat_lt n (2 ^ 63)

-- A result, or the fault that it is out of range.
abbrev pub in_range_or_fault : ℤ → Result ℤ NumberFault
in_range_or_fault z = if fits z then Ok z else Err OutOfRange

abbrev pub sum_of : ℤ → ℤ → Result ℤ NumberFault
sum_of a b = in_range_or_fault (a +ℤ b)

abbrev pub difference_of : ℤ → ℤ → Result ℤ NumberFault
difference_of a b = in_range_or_fault (a -ℤ b)

abbrev pub product_of : ℤ → ℤ → Result ℤ NumberFault
product_of a b = in_range_or_fault (a *ℤ b)

abbrev pub negative_of : ℤ → Result ℤ NumberFault
negative_of a = in_range_or_fault (neg_ℤ a)

abbrev pub is_zero : ℤ → Bool
is_zero (pos zero) = true
is_zero (pos (suc n)) = false
is_zero (negsuc n) = false

abbrev pub is_negative : ℤ → Bool
is_negative (pos n) = false
is_negative (negsuc n) = true

abbrev pub same_sign : ℤ → ℤ → Bool
same_sign a b = if is_negative a then is_negative b else (if is_negative b then false else true)

-- floor(a / b): the quotient towards zero, less 1 where it is not whole and below zero.
abbrev pub floor_of : ℤ → ℤ → ℤ
floor_of a b = if is_zero (int_rem a b) || same_sign (int_rem a b) b then int_div a b else int_div a b -ℤ pos 1

-- a - floor(a / b) * b
abbrev pub rest_of : ℤ → ℤ → ℤ
rest_of a b = a -ℤ floor_of a b *ℤ b

-- The rest on the side of b, from the rest of the division towards zero.
abbrev pub rest_beside : ℤ → ℤ → ℤ
rest_beside r b = if is_zero r || same_sign r b then r else r +ℤ b

-- a % b
abbrev pub remainder_of : ℤ → ℤ → Result ℤ NumberFault
remainder_of a b = if is_zero b then Err ByZero else in_range_or_fault (rest_of a b)

-- a / b, where it is whole
abbrev pub quotient_of : ℤ → ℤ → Result ℤ NumberFault
quotient_of a b = if is_zero b then Err ByZero else (if is_zero (rest_of a b) then in_range_or_fault (floor_of a b) else Err NotWhole)

-- 1 over a power of a, which is whole for the bases 1 and -1 alone
abbrev pub inverse_power_of : ℤ → ℕ → Result ℤ NumberFault
inverse_power_of (pos zero) n = Err ByZero
inverse_power_of (pos (suc zero)) n = Ok (pos 1)
inverse_power_of (pos (suc (suc a))) n = Err NotWhole
inverse_power_of (negsuc zero) n = Ok (int_pow (negsuc 0) n)
inverse_power_of (negsuc (suc a)) n = Err NotWhole

-- a ^ b
abbrev pub power_of : ℤ → ℤ → Result ℤ NumberFault
power_of a (pos n) = in_range_or_fault (int_pow a n)
power_of a (negsuc n) = inverse_power_of a (suc n)

-- Between 0 and b, where it may be 0 and is never b.
abbrev pub Between : ℤ → ℤ → Type 0
Between (pos r) (pos b) = r < b
Between (negsuc r) (negsuc b) = r < b
Between (pos r) (negsuc b) = r < 1
Between (negsuc r) (pos b) = r < 0

-- r and a differ by a multiple of b.
abbrev pub Multiple : ℤ → ℤ → ℤ → Type 0
Multiple a b r = (q : ℤ) × (q *ℤ b +ℤ r ≡ a)

-- What the rest of a division by b is: a multiple of b away from a, and between 0 and b.
abbrev pub IsRest : ℤ → ℤ → ℤ → Type 0
IsRest a b r = Multiple a b r × Between r b
