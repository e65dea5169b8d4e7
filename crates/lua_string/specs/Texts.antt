-- Texts that are made of others (Lua 5.1 manual, 5.4).
use Rattle.std.specs.Prelude.{ℕ, zero, suc, ◌-◌, ◌^◌, min, Bool, false, nat_le, if◌then◌else◌, ℤ, pos, negsuc, unsigned_abs, List, [], ◌∷◌, ◌++◌, Option, Some, None}
use Rattle.std.specs.Option.{option_map}

abbrev pub is_code : ℤ → Bool
is_code (pos n) = nat_le n 255
is_code (negsuc n) = false

-- the bytes with these codes, where all are from 0 to 255
abbrev pub bytes_of : List ℤ → Option (List ℕ)
bytes_of [] = Some []
bytes_of (n ∷ ns) = if is_code n then option_map (λ (bs : List ℕ). unsigned_abs n ∷ bs) (bytes_of ns) else None

abbrev pub how_many : ℤ → ℕ
how_many (pos n) = n
how_many (negsuc n) = 0

abbrev pub copies : ℕ → List ℕ → List ℕ
copies zero s = []
copies (suc n) s = s ++ copies n s

-- so many copies, and none below 1
abbrev pub rep_of : List ℕ → ℤ → List ℕ
rep_of s n = copies (how_many n) s

-- a length, or where it is greater, the greatest number of 64 bits
abbrev pub saturated : ℕ → ℕ
saturated n = min n (2 ^ 64 - 1)
