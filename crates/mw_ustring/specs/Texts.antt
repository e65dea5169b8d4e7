-- Code points of a text and their places (Scribunto, Ustring library). Places of Lua are those of `lua_string`, counted in code points.
use Rattle.std.specs.Prelude.{ℕ, zero, suc, ◌-◌, Bool, false, nat_lt, if◌then◌else◌, ℤ, pos, negsuc, unsigned_abs, List, [], ◌∷◌, ◌++◌, length, take, drop, reverse, slice_get, Option, Some, None, chars, encode_utf8_all}
use Rattle.std.specs.Char.{encode_utf8}
use Rattle.std.specs.Option.{option_map}
use lib.Utf8.{scalar}
use Rattle.lua_string.specs.LuaPatternTexts.{goes_on}
use Rattle.lua_string.specs.Places.{sub_of}

-- the code points from one place to another, both included
abbrev pub points_of : List ℕ → ℤ → ℤ → List ℕ
points_of s from to = sub_of (chars s) from to

-- how many bytes so many code points take at the head of a text
abbrev pub offset_of : List ℕ → ℕ → ℕ
offset_of s count = length (encode_utf8_all (take count (chars s)))

-- a number that is a code point and no surrogate
abbrev pub is_point : ℤ → Bool
is_point (pos n) = scalar n
is_point (negsuc n) = false

-- the text with these code points, where all are such
abbrev pub text_of_codes : List ℤ → Option (List ℕ)
text_of_codes [] = Some []
text_of_codes (n ∷ ns) =
    if is_point n then option_map (λ (bs : List ℕ). encode_utf8 (unsigned_abs n) ++ bs) (text_of_codes ns) else None

-- ---- byteoffset

-- the places of the bytes that begin a code point, in a text that stands at a place
abbrev pub begun : ℕ → List ℕ → List ℕ
begun at [] = []
begun at (b ∷ bs) = if goes_on b then begun (suc at) bs else at ∷ begun (suc at) bs

-- the byte, from 0, that a place of Lua names, if it is there
abbrev pub byte_at : ℕ → ℤ → Option ℕ
byte_at len (pos zero) = None
byte_at len (pos (suc n)) = if nat_lt n len then Some n else None
byte_at len (negsuc n) = if nat_lt n len then Some (len - suc n) else None

-- Of the code points that begin at a byte or behind it, 1 is the first. Of those that begin at it or before, 0 is the last.
abbrev pub counted : List ℕ → ℤ → ℕ → Option ℕ
counted s (pos zero) at = slice_get (reverse (begun 0 (take (suc at) s))) 0
counted s (pos (suc n)) at = slice_get (begun at (drop at s)) n
counted s (negsuc n) at = slice_get (reverse (begun 0 (take (suc at) s))) (suc n)

abbrev pub counted_from : List ℕ → ℤ → Option ℕ → Option ℕ
counted_from s l None = None
counted_from s l (Some at) = option_map suc (counted s l at)

-- the byte, from 1, at which code point `l` begins, counted from byte `i`
abbrev pub byteoffset_of : List ℕ → ℤ → ℤ → Option ℕ
byteoffset_of s l i = counted_from s l (byte_at (length s) i)
