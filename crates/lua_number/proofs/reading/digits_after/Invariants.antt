use Rattle.std.proofs.Common.{◌≡◌, ◌<◌, ◌^◌, drop}
use Rattle.std.specs.Str.Parse.{digits_value_after}
use Rattle.lua_number.proofs.reading.digits_after.Given as goal

abbrev pub invariant-loop-c : goal.invariant-loop-c
invariant-loop-c l = record { total : digits_value_after l.base l.value (drop l.c-index l.digits) ≡ digits_value_after l.base l.fn.start l.digits; below : l.value < 2 ^ 64 }
