use Rattle.std.proofs.Common.{◌≤◌, ◌+◌, length}
use Rattle.lua_format.specs.Format.{formatted}
use Rattle.lua_format.proofs.Formats.{Counts}
use Rattle.lua_format.proofs.formatting.format_length.Given as goal

-- Some bytes of this length, with what the rest gives, are what the whole gives.
abbrev pub invariant-pieces : goal.invariant-pieces
invariant-pieces l = Counts l.values l.len l.rest l.at (formatted l.values l.initial.rest 0) × (l.at + length l.rest ≤ length l.initial.rest)

abbrev pub decreases-pieces : goal.decreases-pieces
decreases-pieces l = length l.rest
