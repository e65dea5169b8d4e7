use Rattle.std.proofs.Common.{◌≡◌, ◌≤◌, length}
use Rattle.lua_format.specs.Directives.{flags_from, no_flags}
use Rattle.lua_format.proofs.directive.read_flags.Given as goal

abbrev pub invariant-flags : goal.invariant-flags
invariant-flags l = (flags_from l.room l.flags l.rest ≡ flags_from 5 no_flags l.initial.rest) × (length l.rest ≤ length l.initial.rest)

abbrev pub decreases-flags : goal.decreases-flags
decreases-flags l = length l.rest
