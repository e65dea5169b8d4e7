-- How `string.format` reads what stands behind a `%`: flags, a width, a precision and a letter (Lua 5.1 manual, 5.4,
-- string.format; C's `printf`). Bytes are written by their codes: 32 is a space, 35 #, 37 %, 43 +, 45 -, 46 a point.
use Rattle.std.specs.Prelude.{ℕ, zero, suc, ◌+◌, ◌-◌, ◌*◌, Bool, true, false, ◌||◌, ◌==◌, if◌then◌else◌, List, [], ◌∷◌, Option, Some, None}
use Rattle.std.specs.Option.{option_map}
use Rattle.std.specs.Char.{is_ascii_digit}
use Rattle.lua_format.specs.declared.directive.Flags.{Flags}
use Rattle.lua_format.specs.declared.directive.Directive.{Directive}
use Rattle.lua_format.specs.declared.directive.Conversion.{Conversion}
use Rattle.lua_format.specs.declared.directive.Conversion.TheVariants as conversion

abbrev pub is_flag : ℕ → Bool
is_flag c = c == 45 || c == 43 || c == 32 || c == 35 || c == 48

abbrev pub no_flags : Flags
no_flags = record { minus = false; plus = false; space = false; sharp = false; zero = false }

abbrev pub with_flag : ℕ → Flags → Flags
with_flag c f = record {
  minus = f.minus || c == 45;
  plus = f.plus || c == 43;
  space = f.space || c == 32;
  sharp = f.sharp || c == 35;
  zero = f.zero || c == 48;
}

-- one flag more, where there is room for it
abbrev pub flag_more : ℕ → (ℕ → Option (Flags × List ℕ)) → Option (Flags × List ℕ)
flag_more zero rest = None
flag_more (suc n) rest = rest n

-- all flags at the head of a text, and the text behind them; none where they are more than n
abbrev pub flags_from : ℕ → Flags → List ℕ → Option (Flags × List ℕ)
flags_from n f [] = Some (f, [])
flags_from n f (c ∷ cs) = if is_flag c then flag_more n (λ m. flags_from m (with_flag c f) cs) else Some (f, c ∷ cs)

-- a number of at most two digits, and the text behind it; 0 where there is no digit
abbrev pub second_digit : ℕ → List ℕ → ℕ × List ℕ
second_digit n [] = (n, [])
second_digit n (c ∷ cs) = if is_ascii_digit c then (10 * n + (c - 48), cs) else (n, c ∷ cs)

abbrev pub two_digits : List ℕ → ℕ × List ℕ
two_digits [] = (0, [])
two_digits (c ∷ cs) = if is_ascii_digit c then second_digit (c - 48) cs else (0, c ∷ cs)

-- the number behind a point, if there is one
abbrev pub precision_of : List ℕ → Option ℕ × List ℕ
precision_of [] = (None, [])
precision_of (c ∷ cs) = if c == 46 then (Some (two_digits cs).0, (two_digits cs).1) else (None, c ∷ cs)

abbrev pub conversion_of : ℕ → Option Conversion
conversion_of c =
    if c == 99 then Some conversion.Byte else
    (if c == 100 then Some conversion.Decimal else
    (if c == 105 then Some conversion.Decimal else
    (if c == 117 then Some conversion.Unsigned else
    (if c == 111 then Some conversion.Octal else
    (if c == 120 then Some (conversion.Hexadecimal false) else
    (if c == 88 then Some (conversion.Hexadecimal true) else
    (if c == 102 then Some conversion.Fixed else
    (if c == 113 then Some conversion.Quoted else
    (if c == 115 then Some conversion.Text else
    (if c == 37 then Some conversion.Percent else None))))))))))

abbrev pub letter_of : Flags → ℕ → Option ℕ → List ℕ → Option (Directive × List ℕ)
letter_of f w p [] = None
letter_of f w p (c ∷ cs) =
    option_map (λ k. (record { flags = f; width = w; precision = p; conversion = k }, cs)) (conversion_of c)

abbrev pub behind_flags : Option (Flags × List ℕ) → Option (Directive × List ℕ)
behind_flags None = None
behind_flags (Some p) =
    letter_of p.0 (two_digits p.1).0 (precision_of (two_digits p.1).1).0 (precision_of (two_digits p.1).1).1

-- the directive behind a `%`, and the text behind it; None where it has no form
unfoldable pub directive_of : List ℕ → Option (Directive × List ℕ)
directive_of text = behind_flags (flags_from 5 no_flags text)
