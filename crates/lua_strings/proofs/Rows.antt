-- Examples of calls: they compute.
use Rattle.std.proofs.Common.{refl}
use Rattle.std.specs.Fmt.{digits}
use Rattle.lua_format.specs.LuaNumberNumerals.{decimal_of, numeral_of, trimmed, digits_of_base, read_number_of, read_in_base_of}
use Rattle.lua_format.specs.Directives.{directive_of}
use Rattle.lua_format.specs.Layouts.{filled}
use Rattle.lua_format.specs.Format.{formatted}
use Rattle.lua_strings.specs.Examples.{Parts, Made, Searched, LaidOut, Calculated}

pub parts : Parts
unfolding digits trimmed numeral_of decimal_of digits_of_base read_number_of read_in_base_of formatted directive_of filled
parts = (refl, refl, refl, refl, refl, refl, refl, refl)

pub made : Made
unfolding digits trimmed numeral_of decimal_of digits_of_base read_number_of read_in_base_of formatted directive_of filled
made = (refl, refl, refl, refl, refl, refl, refl, refl, refl, refl, refl)

pub searched : Searched
unfolding digits trimmed numeral_of decimal_of digits_of_base read_number_of read_in_base_of formatted directive_of filled
searched = (refl, refl, refl, refl, refl, refl, refl, refl, refl, refl, refl)

pub laid_out : LaidOut
unfolding digits trimmed numeral_of decimal_of digits_of_base read_number_of read_in_base_of formatted directive_of filled
laid_out = (refl, refl, refl, refl, refl, refl)

pub calculated : Calculated
unfolding digits trimmed numeral_of decimal_of digits_of_base read_number_of read_in_base_of formatted directive_of filled
calculated = (refl, refl, refl, refl, refl, refl, refl, refl, refl, refl, refl, refl)
