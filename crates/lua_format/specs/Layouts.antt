-- What a directive of `string.format` writes: a text, filled up to a width (Lua 5.1 manual, 5.4, string.format; C's
-- `printf`). Bytes are written by their codes: 32 is a space, 34 ", 43 +, 45 -, 46 a point, 48 0, 88 X, 92 \, 120 x.
use Rattle.std.specs.Prelude.{ℕ, ◌+◌, ◌-◌, Bool, true, false, not, ◌||◌, ◌&&◌, ◌==◌, if◌then◌else◌, ℤ, unsigned_abs, List, [], ◌∷◌, ◌++◌, length, take, replicate, Option, Some, None, unwrap_or}
use Rattle.std.specs.Int.{is_negative, cast_unsigned, w64}
use Rattle.std.specs.Option.{is_none}
use Rattle.std.specs.Fmt.{digits, decimal}
use Rattle.lua_format.specs.declared.directive.Flags.{Flags}
use Rattle.lua_format.specs.declared.directive.Conversion.{Conversion}
use Rattle.lua_format.specs.declared.directive.Conversion.TheVariants as conversion

abbrev pub spaces : ℕ → List ℕ
spaces n = replicate n 32

abbrev pub noughts : ℕ → List ℕ
noughts n = replicate n 48

-- A prefix and a body in a width: under `-` spaces stand behind them, under `0`, where it counts, zeros between them, and
-- else spaces before them.
unfoldable pub filled : Flags → ℕ → Bool → List ℕ → List ℕ → List ℕ
filled f width zeros prefix body =
    let room = width - length (prefix ++ body) in
    if f.minus then prefix ++ body ++ spaces room else
    (if f.zero && zeros then prefix ++ (noughts room ++ body) else spaces room ++ (prefix ++ body))

abbrev pub sign_of : Flags → ℤ → List ℕ
sign_of f n = if is_negative n then 45 ∷ [] else (if f.plus then 43 ∷ [] else (if f.space then 32 ∷ [] else []))

-- at least so many digits; under a precision of 0 the number 0 has none
abbrev pub counted_digits : ℕ → Bool → Option ℕ → ℕ → List ℕ
counted_digits base upper None m = digits base upper m
counted_digits base upper (Some p) m =
    if m == 0 && p == 0 then [] else noughts (p - length (digits base upper m)) ++ digits base upper m

abbrev pub with_nought : List ℕ → List ℕ
with_nought [] = 48 ∷ []
with_nought (d ∷ ds) = if d == 48 then d ∷ ds else 48 ∷ d ∷ ds

abbrev pub octal_digits : Flags → Option ℕ → ℕ → List ℕ
octal_digits f p m = if f.sharp then with_nought (counted_digits 8 false p m) else counted_digits 8 false p m

abbrev pub hexadecimal_prefix : Flags → Bool → ℕ → List ℕ
hexadecimal_prefix f upper m = if f.sharp && not (m == 0) then 48 ∷ (if upper then 88 else 120) ∷ [] else []

-- a point and zeros, since every number is whole
abbrev pub fraction : Flags → ℕ → List ℕ
fraction f p = if f.sharp || not (p == 0) then 46 ∷ noughts p else []

-- the number modulo 2^64
abbrev pub word : ℤ → ℕ
word n = cast_unsigned w64 n

-- what a number is written as by a letter
abbrev pub number_by : Conversion → Flags → ℕ → Option ℕ → ℤ → List ℕ
number_by conversion.Decimal f w p n = filled f w (is_none p) (sign_of f n) (counted_digits 10 false p (unsigned_abs n))
number_by conversion.Unsigned f w p n = filled f w (is_none p) [] (counted_digits 10 false p (word n))
number_by conversion.Octal f w p n = filled f w (is_none p) [] (octal_digits f p (word n))
number_by (conversion.Hexadecimal upper) f w p n =
    filled f w (is_none p) (hexadecimal_prefix f upper (word n)) (counted_digits 16 upper p (word n))
number_by conversion.Fixed f w p n = filled f w true (sign_of f n) (decimal (unsigned_abs n) ++ fraction f (unwrap_or p 6))
number_by conversion.Byte f w p n = filled f w false [] (unsigned_abs n ∷ [])
number_by _ f w p n = []

-- a byte between the quotes of `%q`
abbrev pub quoted_byte : ℕ → List ℕ
quoted_byte c =
    if c == 34 || c == 92 || c == 10 then 92 ∷ c ∷ [] else
    (if c == 13 then 92 ∷ 114 ∷ [] else (if c == 0 then 92 ∷ 48 ∷ 48 ∷ 48 ∷ [] else c ∷ []))

abbrev pub quoted_bytes : List ℕ → List ℕ
quoted_bytes [] = []
quoted_bytes (c ∷ cs) = quoted_byte c ++ quoted_bytes cs

abbrev pub quoted : List ℕ → List ℕ
quoted text = 34 ∷ (quoted_bytes text ++ 34 ∷ [])

abbrev pub cut : Option ℕ → List ℕ → List ℕ
cut None text = text
cut (Some p) text = take p text

-- what a text is written as by a letter
abbrev pub text_by : Conversion → Flags → ℕ → Option ℕ → List ℕ → List ℕ
text_by conversion.Quoted f w p text = quoted text
text_by _ f w p text = filled f w false [] (cut p text)
