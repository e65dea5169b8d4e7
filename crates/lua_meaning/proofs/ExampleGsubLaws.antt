-- Examples of calls: they compute.
use Rattle.std.proofs.Common.{refl}
use Rattle.std.specs.Str.{is_utf8, chars}
use Rattle.std.specs.Char.{encode_utf8}
use Rattle.std.specs.Fmt.{digits}
use Rattle.lua_format.specs.LuaNumberNumerals.{decimal_of, numeral_of, trimmed, digits_of_base, read_number_of, read_in_base_of}
use Rattle.mw_text.specs.LuaPatternTexts.{point_code}
use Rattle.lua_meaning.specs.ExampleGsub.{Matches, Captures, Limits, Faults, Points, Refused, AllReplacements}

matches : Matches
unfolding digits
matches = (refl, refl, refl, refl, refl)

captures : Captures
unfolding digits
captures = (refl, refl, refl, refl)

limits : Limits
unfolding digits decimal_of numeral_of trimmed digits_of_base read_number_of read_in_base_of
limits = (refl, refl, refl)

faults : Faults
unfolding digits
faults = (refl, refl, refl)

points : Points
unfolding is_utf8 chars encode_utf8 point_code digits
points = (refl, refl, refl)

refused : Refused
unfolding digits decimal_of numeral_of trimmed digits_of_base read_number_of read_in_base_of
refused = (refl, refl, refl, refl, refl)

pub all_replacements : AllReplacements
all_replacements = (matches, captures, limits, faults, points, refused)
