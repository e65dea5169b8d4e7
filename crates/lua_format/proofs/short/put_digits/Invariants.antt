use Rattle.std.proofs.Common.{◌≡◌, ◌<◌, ◌≤◌, ◌-◌, ◌^◌, length, drop}
use Rattle.std.specs.Fmt.{digits}
use Rattle.lua_format.specs.Written.{written}
use Rattle.lua_format.proofs.short.put_digits.Given as goal

-- What is left is written before what stands, and fits.
abbrev pub invariant-digits : goal.invariant-digits
invariant-digits l =
    (length l.bytes ≡ 24) × (3 ≤ l.start) × (l.start ≤ 24) × (l.left < 8 ^ (l.start - 2))
    × (written l.start l.base l.upper l.left (drop l.start l.bytes) ≡ digits l.base l.upper l.initial.left)

abbrev pub decreases-digits : goal.decreases-digits
decreases-digits l = l.start
