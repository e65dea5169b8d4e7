-- Places of Lua in a text: from 1, or from its end on below 0 (Lua 5.1 manual, 5.4).
use Rattle.std.specs.Prelude.{ℕ, zero, suc, ◌-◌, min, ℤ, pos, negsuc, List, length, take, drop}

-- How many bytes stand before the place, in a text of so many bytes. 0 counts as 1; before the start is the start.
abbrev pub first_place : ℕ → ℤ → ℕ
first_place len (pos zero) = 0
first_place len (pos (suc n)) = min n len
first_place len (negsuc n) = len - suc n

-- how many bytes stand up to the place and at it
abbrev pub last_place : ℕ → ℤ → ℕ
last_place len (pos n) = min n len
last_place len (negsuc n) = len - n

-- the bytes from one place to another, both included
abbrev pub sub_of : List ℕ → ℤ → ℤ → List ℕ
sub_of s from to = take (last_place (length s) to - first_place (length s) from) (drop (first_place (length s) from) s)
