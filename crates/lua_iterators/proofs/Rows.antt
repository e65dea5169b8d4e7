-- Examples of calls: they compute.
use Rattle.std.proofs.Common.{refl}
use Rattle.std.specs.Str.{is_utf8, chars}
use Rattle.std.specs.Char.{encode_utf8}
use Rattle.std.specs.Fmt.{digits}
use Rattle.lua_string.specs.LuaPatternTexts.{point_code}
use Rattle.lua_iterators.specs.Examples.{Empties, Captured, Patterns, Points, CodePoints, Parts, Refused}

pub empties : Empties
empties = refl

pub captured : Captured
captured = refl

pub patterns : Patterns
unfolding digits
patterns = (refl, refl, refl)

pub points : Points
unfolding is_utf8 chars encode_utf8 point_code
points = (refl, refl)

pub code_points : CodePoints
unfolding is_utf8 chars encode_utf8 point_code
code_points = (refl, refl)

pub parts : Parts
unfolding is_utf8 chars encode_utf8 point_code
parts = (refl, refl, refl, refl)

pub refused : Refused
unfolding is_utf8 chars encode_utf8 digits
refused = (refl, refl, refl, refl, refl)
