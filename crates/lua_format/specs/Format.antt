-- `string.format` (Lua 5.1 manual, 5.4): the bytes that it gives, or the first fault. Values are counted from 0.
use Rattle.std.specs.Prelude.{◌≡◌, ℕ, zero, suc, ◌+◌, Bool, true, false, ◌==◌, nat_le, if◌then◌else◌, ℤ, pos, negsuc, List, [], ◌∷◌, ◌++◌, length, slice_get, Option, Some, None, Result, Ok, Err}
use Rattle.std.specs.Fmt.{signed_decimal}
use Rattle.lua_number.specs.Numerals.{read_number_of}
use Rattle.lua_format.specs.declared.directive.Directive.{Directive}
use Rattle.lua_format.specs.declared.directive.Conversion.{Conversion}
use Rattle.lua_format.specs.declared.directive.Conversion.TheVariants as conversion
use Rattle.lua_format.specs.declared.value.FormatValue.{FormatValue}
use Rattle.lua_format.specs.declared.value.FormatValue.TheVariants as value
use Rattle.lua_format.specs.declared.value.Want.{Want}
use Rattle.lua_format.specs.declared.value.Want.TheVariants as want
use Rattle.lua_format.specs.declared.value.FormatFault.{FormatFault}
use Rattle.lua_format.specs.declared.value.FormatFault.TheVariants as fault
use Rattle.lua_format.specs.Directives.{directive_of}
use Rattle.lua_format.specs.Layouts.{number_by, text_by}
use Rattle.lua_format.specs.Lengths.{saturated}

abbrev pub wants : Conversion → Want
wants conversion.Quoted = want.Text
wants conversion.Text = want.Text
wants _ = want.Number

-- Where a number is wanted, a text that reads as one is taken; where a text is wanted, the digits of a number.
abbrev pub number_in : FormatValue → Option ℤ
number_in (value.Number n) = Some n
number_in (value.Text t) = read_number_of t
number_in value.Other = None

abbrev pub text_in : FormatValue → Option (List ℕ)
text_in (value.Number n) = Some (signed_decimal n)
text_in (value.Text t) = Some t
text_in value.Other = None

abbrev pub is_code : ℤ → Bool
is_code (pos n) = nat_le n 255
is_code (negsuc n) = false

abbrev pub is_byte : Conversion → Bool
is_byte conversion.Byte = true
is_byte _ = false

abbrev pub byte_or : Bool → ℕ → List ℕ → Result (List ℕ) FormatFault
byte_or true at text = Ok text
byte_or false at text = Err (fault.OutOfRange at)

-- `%c` takes the numbers from 0 to 255.
abbrev pub of_number : Directive → ℕ → Option ℤ → Result (List ℕ) FormatFault
of_number d at None = Err (fault.WrongKind at want.Number)
of_number d at (Some n) =
    if is_byte d.conversion then byte_or (is_code n) at (number_by d.conversion d.flags d.width d.precision n)
    else Ok (number_by d.conversion d.flags d.width d.precision n)

abbrev pub of_text : Directive → ℕ → Option (List ℕ) → Result (List ℕ) FormatFault
of_text d at None = Err (fault.WrongKind at want.Text)
of_text d at (Some t) = Ok (text_by d.conversion d.flags d.width d.precision t)

abbrev pub of_value : Want → Directive → ℕ → FormatValue → Result (List ℕ) FormatFault
of_value want.Number d at v = of_number d at (number_in v)
of_value want.Text d at v = of_text d at (text_in v)

-- what a directive writes of the value at a place, if there is one
abbrev pub item_of : Directive → ℕ → Option FormatValue → Result (List ℕ) FormatFault
item_of d at None = Err (fault.Missing at (wants d.conversion))
item_of d at (Some v) = of_value (wants d.conversion) d at v

-- a text, and what follows
abbrev pub put : List ℕ → Result (List ℕ) FormatFault → Result (List ℕ) FormatFault
put text (Ok more) = Ok (text ++ more)
put text (Err e) = Err e

abbrev pub and_then : Result (List ℕ) FormatFault → Result (List ℕ) FormatFault → Result (List ℕ) FormatFault
and_then (Ok text) more = put text more
and_then (Err e) more = Err e

abbrev pub is_percent : Conversion → Bool
is_percent conversion.Percent = true
is_percent _ = false

-- `%%` takes no value; else the next directive takes the next value.
abbrev pub behind_percent : List FormatValue → (List ℕ → ℕ → Result (List ℕ) FormatFault) → Option (Directive × List ℕ) → ℕ → Result (List ℕ) FormatFault
behind_percent values more None at = Err fault.BadOption
behind_percent values more (Some p) at =
    if is_percent p.0.conversion then put (37 ∷ []) (more p.1 at)
    else and_then (item_of p.0 at (slice_get values at)) (more p.1 (at + 1))

-- a format of at most n bytes, from the value at a place on
abbrev pub formatted_from : List FormatValue → ℕ → List ℕ → ℕ → Result (List ℕ) FormatFault
formatted_from values zero text at = Ok []
formatted_from values (suc n) [] at = Ok []
formatted_from values (suc n) (c ∷ cs) at =
    if c == 37 then behind_percent values (formatted_from values n) (directive_of cs) at
    else put (c ∷ []) (formatted_from values n cs at)

unfoldable pub formatted : List FormatValue → List ℕ → ℕ → Result (List ℕ) FormatFault
formatted values text at = formatted_from values (length text) text at

-- The fault is this one, or memory ran out.
abbrev pub IsFault : Result (List ℕ) FormatFault → FormatFault → Type 0
IsFault r fault.NoMemory = Unit {0}
IsFault r e = r ≡ Err e

-- There is an answer, and it has so many bytes, or where they are more, this is the greatest number of 64 bits.
abbrev pub HasLength : Result (List ℕ) FormatFault → ℕ → Type 0
HasLength (Ok text) n = n ≡ saturated (length text)
HasLength (Err e) n = ⊥
