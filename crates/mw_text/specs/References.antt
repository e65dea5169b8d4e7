-- CHARACTER REFERENCES: how `encode` and `nowiki` write them (Scribunto manual, mw.text.encode, mw.text.nowiki). Characters by
-- their codes: 34 ", 38 &, 39 ', 60 <, 61 =, 62 >, 91 [, 93 ], 123 {, 124 |, 125 }, 160 the space that does not break.
use Rattle.std.specs.Prelude.{ℕ, Bool, ◌||◌, ◌==◌, if◌then◌else◌, List, ◌∷◌, [], ◌++◌, length, codes, chars, flat_map, Option, Result, Ok, Err}
use Rattle.std.specs.Char.{encode_utf8}
use Rattle.std.specs.Fmt.{decimal}
use Rattle.mw_ustring.specs.LuaPatternDeclaredItemSet.{Set}
use Rattle.mw_text.specs.declared.answers.TextAnswer.{TextAnswer}
use Rattle.mw_text.specs.Answers.{IsText}
use Rattle.mw_text.specs.Sets.{member}

-- by its number, in decimal without zeros in front
unfoldable pub numbered : ℕ → List ℕ
numbered c = codes "&#" ++ decimal c ++ codes ";"

-- by its name, where it has one
abbrev pub referred : ℕ → List ℕ
referred c =
    if c == 38 then codes "&amp;" else if c == 60 then codes "&lt;" else if c == 62 then codes "&gt;"
    else if c == 34 then codes "&quot;" else if c == 160 then codes "&nbsp;" else numbered c

-- the usual set of `encode`
abbrev pub is_special : ℕ → Bool
is_special c = (c == 38) || (c == 60) || (c == 62) || (c == 34) || (c == 39) || (c == 160)

abbrev pub encoded_point : (ℕ → Bool) → ℕ → List ℕ
encoded_point goes c = if goes c then referred c else encode_utf8 c

-- ENCODE, of code points
abbrev pub encoded : (ℕ → Bool) → List ℕ → List ℕ
encoded goes cs = flat_map (encoded_point goes) cs

-- one try for each code point
abbrev pub IsEncoded : ℕ → List ℕ → Result (Option Set) ℕ → TextAnswer → Type 0
IsEncoded budget s (Err n) answer = ⊥
IsEncoded budget s (Ok set) answer = IsText budget (length (chars s)) (encoded (member is_special set) (chars s)) answer

-- what wikitext would read as markup
abbrev pub is_markup : ℕ → Bool
is_markup b =
    (b == 34) || (b == 38) || (b == 39) || (b == 60) || (b == 61) || (b == 62) || (b == 91) || (b == 93) || (b == 123) || (b == 124) || (b == 125)

abbrev pub nowiki_byte : ℕ → List ℕ
nowiki_byte b = if is_markup b then numbered b else b ∷ []

-- NOWIKI, of bytes
abbrev pub nowiki_of : List ℕ → List ℕ
nowiki_of bytes = flat_map nowiki_byte bytes
