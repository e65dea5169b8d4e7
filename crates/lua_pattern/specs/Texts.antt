-- The two alphabets: bytes, and the code points of UTF-8.
use Rattle.std.specs.Prelude.{ℕ, suc, Bool, true, cond, not, ◌&&◌, ◌||◌, ◌==◌, nat_le, List, [], ◌∷◌}
use Rattle.lua_pattern.specs.declared.item.Class.{Class}
use Rattle.lua_pattern.specs.declared.item.Class.TheVariants as class
use Rattle.lua_pattern.specs.Letters.{Symbol, Letters}
use Rattle.ucd_category.specs.declared.GeneralCategory.{GeneralCategory}
use Rattle.ucd_category.specs.declared.GeneralCategory.TheVariants as category
use Rattle.ucd_category.specs.declared.GeneralCategoryGroup.{GeneralCategoryGroup}
use Rattle.ucd_category.specs.declared.GeneralCategoryGroup.TheVariants as group
use Rattle.unicode.specs.GeneralCategory.{general_category, general_category_eq}
use Rattle.unicode.specs.GeneralCategoryGroup.{in_group}
use Rattle.bstr.specs.Utf8.{decoded, or_replacement}

abbrev pub between : ℕ → ℕ → ℕ → Bool
between low high c = nat_le low c && nat_le c high

abbrev pub is_lower : ℕ → Bool
is_lower = between 97 122

abbrev pub is_upper : ℕ → Bool
is_upper = between 65 90

abbrev pub is_digit : ℕ → Bool
is_digit = between 48 57

abbrev pub is_letter : ℕ → Bool
is_letter c = is_upper c || is_lower c

abbrev pub is_hexadecimal : ℕ → Bool
is_hexadecimal c = is_digit c || between 65 70 c || between 97 102 c

-- Lua 5.1 manual, 5.4.1, character classes, in the C locale: ASCII alone
abbrev pub byte_class : Class → ℕ → Bool
byte_class class.Letter c = is_letter c
byte_class class.Control c = nat_le c 31 || (c == 127)
byte_class class.Digit c = is_digit c
byte_class class.Lower c = is_lower c
byte_class class.Punctuation c = between 33 47 c || between 58 64 c || between 91 96 c || between 123 126 c
byte_class class.Space c = between 9 13 c || (c == 32)
byte_class class.Upper c = is_upper c
byte_class class.Alphanumeric c = is_letter c || is_digit c
byte_class class.Hexadecimal c = is_hexadecimal c
byte_class class.Zero c = c == 0

abbrev pub byte_symbols : List ℕ → List Symbol
byte_symbols [] = []
byte_symbols (b ∷ bs) = record { code = b; size = 1 } ∷ byte_symbols bs

abbrev pub bytes : Letters
bytes = record { symbols = byte_symbols; starts = λ text. true; has = byte_class }

abbrev pub is_of : GeneralCategory → ℕ → Bool
is_of category c = general_category_eq (general_category c) category

abbrev pub is_among : GeneralCategoryGroup → ℕ → Bool
is_among group c = in_group group (general_category c)

-- Scribunto manual, mw.ustring, Ustring patterns: classes by General Category
abbrev pub point_class : Class → ℕ → Bool
point_class class.Letter c = is_among group.Letter c
point_class class.Control c = is_of category.Control c
point_class class.Digit c = is_of category.DecimalNumber c
point_class class.Lower c = is_of category.LowercaseLetter c
point_class class.Punctuation c = is_among group.Punctuation c
point_class class.Space c = is_among group.Separator c || between 9 13 c
point_class class.Upper c = is_of category.UppercaseLetter c
point_class class.Alphanumeric c = is_among group.Letter c || is_of category.DecimalNumber c
point_class class.Hexadecimal c = is_hexadecimal c
point_class class.Zero c = c == 0

-- a byte with which a code point of UTF-8 goes on
abbrev pub goes_on : ℕ → Bool
goes_on = between 128 191

-- how many such bytes stand at the head of a text
abbrev pub later_bytes : List ℕ → ℕ
later_bytes [] = 0
later_bytes (b ∷ bs) = cond (goes_on b) (suc (later_bytes bs)) 0

-- the code point that UTF-8 spells at the head of a text
unfoldable pub point_code : List ℕ → ℕ
point_code text = or_replacement (decoded text).char

abbrev pub point : ℕ → List ℕ → Symbol
point b bs = record { code = point_code (b ∷ bs); size = suc (later_bytes bs) }

-- Each byte with which no code point goes on begins one.
abbrev pub later_points : List ℕ → List Symbol
later_points [] = []
later_points (b ∷ bs) = cond (goes_on b) (later_points bs) (point b bs ∷ later_points bs)

abbrev pub point_symbols : List ℕ → List Symbol
point_symbols [] = []
point_symbols (b ∷ bs) = point b bs ∷ later_points bs

abbrev pub point_starts : List ℕ → Bool
point_starts [] = true
point_starts (b ∷ bs) = not (goes_on b)

abbrev pub points : Letters
points = record { symbols = point_symbols; starts = point_starts; has = point_class }
