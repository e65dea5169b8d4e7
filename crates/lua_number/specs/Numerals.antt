-- How Lua reads numbers in the bytes of a text: numerals (manual 2.1), and number texts (`tonumber`, manual 5.1).
-- Bytes are written by their codes: 43 is +, 45 is -, 46 is ., 48 is 0, 69 and 101 are E and e, 88 and 120 are X and x.
use Rattle.std.specs.Prelude.{ℕ, suc, ◌+◌, ◌-◌, ◌*◌, ◌^◌, ◌&&◌, ◌||◌, ◌==◌, ℤ, pos, negsuc, neg_ℤ, Bool, if◌then◌else◌, nat_lt, List, [], ◌++◌, length, take, drop, slice_index, position, Option, Some, None, unwrap_or}
use Rattle.std.specs.List.{list_all, before_first}
use Rattle.std.specs.Option.{option_map}
use Rattle.std.specs.Char.{digit_value}
use Rattle.std.specs.Str.Parse.{digits_value}
use Rattle.wk_base.specs.Space.{trim}
use Rattle.lua_number.specs.Whole.{fits}

-- The number, if it is one of Lua's.
abbrev pub in_range : Option ℤ → Option ℤ
in_range None = None
in_range (Some z) = if fits z then Some z else None

-- What stands behind the first byte that passes, if there is one.
abbrev pub behind : (ℕ → Bool) → List ℕ → Option (List ℕ)
behind p text = option_map (λ k. drop (k + 1) text) (position p text)

abbrev pub are_digits : ℕ → List ℕ → Bool
are_digits base text = nat_lt 0 (length text) && list_all (λ c. nat_lt (digit_value c) base) text

-- One or more digits of the base, in either case, give the number that they write.
abbrev pub natural : ℕ → List ℕ → Option ℕ
natural base text = if are_digits base text then Some (digits_value base text) else None

-- ---- signs

abbrev pub is_minus : List ℕ → Bool
is_minus text = slice_index text 0 == 45

-- The text behind its sign, if it has one.
abbrev pub unsigned : List ℕ → List ℕ
unsigned text = if is_minus text || slice_index text 0 == 43 then drop 1 text else text

abbrev pub signed : Bool → ℕ → ℤ
signed negative n = if negative then neg_ℤ (pos n) else pos n

-- ---- decimal numerals

abbrev pub is_exponent_mark : ℕ → Bool
is_exponent_mark c = c == 101 || c == 69

abbrev pub is_point : ℕ → Bool
is_point c = c == 46

abbrev pub is_zero_digit : ℕ → Bool
is_zero_digit c = c == 48

-- The exponent that stands behind its letter; without a letter it is 0.
abbrev pub exponent_of : Option (List ℕ) → Option ℤ
exponent_of None = Some (pos 0)
exponent_of (Some text) = option_map (signed (is_minus text)) (natural 10 (unsigned text))

-- How many digits stand before the point once the exponent has moved it.
abbrev pub moved_point : ℕ → ℤ → ℕ
moved_point point (pos e) = point + e
moved_point point (negsuc e) = point - suc e

-- The number of the digits with the point behind that many of them, zeros put in where there are fewer.
-- It is whole where only zeros stand behind the point.
abbrev pub whole_part : List ℕ → ℕ → Option ℕ
whole_part digits point = if list_all is_zero_digit (drop point digits) then Some (digits_value 10 (take point digits) * 10 ^ (point - length digits)) else None

abbrev pub decimal_value : List ℕ → List ℕ → Option ℤ → Option ℕ
decimal_value whole fraction None = None
decimal_value whole fraction (Some e) = if are_digits 10 (whole ++ fraction) then whole_part (whole ++ fraction) (moved_point (length whole) e) else None

-- Digits with at most one point, and at least one digit, and then an exponent or none.
unfoldable pub decimal_of : List ℕ → Option ℕ
decimal_of text =
    let mantissa = before_first is_exponent_mark text in
    decimal_value (before_first is_point mantissa) (unwrap_or (behind is_point mantissa) []) (exponent_of (behind is_exponent_mark text))

-- ---- numerals and number texts

-- Whether the text begins with 0x or 0X.
abbrev pub has_hex_mark : List ℕ → Bool
has_hex_mark text = slice_index text 0 == 48 && (slice_index text 1 == 120 || slice_index text 1 == 88)

-- The value of a numeral, where it is whole.
unfoldable pub numeral_of : List ℕ → Option ℕ
numeral_of text = if has_hex_mark text then natural 16 (drop 2 text) else decimal_of text

-- The text without the bytes that C's `isspace` takes at its ends, which are those that wikitext trims.
unfoldable pub trimmed : List ℕ → List ℕ
trimmed text = trim text

-- One sign or none, and then what `read` takes.
abbrev pub signed_value : (List ℕ → Option ℕ) → List ℕ → Option ℤ
signed_value read text = in_range (option_map (signed (is_minus text)) (read (unsigned text)))

-- Digits of the base; in base 16 they may stand behind 0x or 0X.
unfoldable pub digits_of_base : ℕ → List ℕ → Option ℕ
digits_of_base base text = natural base (if base == 16 && has_hex_mark text then drop 2 text else text)

-- A numeral of a program, whose value is a number of Lua.
unfoldable pub read_numeral_of : List ℕ → Option ℤ
read_numeral_of text = in_range (option_map pos (numeral_of text))

-- A text that is a number: `tonumber` without a base, and a string in arithmetic.
unfoldable pub read_number_of : List ℕ → Option ℤ
read_number_of text = signed_value numeral_of (trimmed text)

-- `tonumber` with a base; base 10 is the same as none.
unfoldable pub read_in_base_of : List ℕ → ℕ → Option ℤ
read_in_base_of text base = if base == 10 then read_number_of text else signed_value (digits_of_base base) (trimmed text)
