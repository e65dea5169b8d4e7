use Rattle.std.proofs.Common.{◌≡◌, ◌≤◌, ◌+◌, length}
use Rattle.lua_format.specs.Format.{formatted, put}
use Rattle.lua_format.proofs.formatting.format.Given as goal

-- What is made, with what the rest gives, is what the whole gives.
abbrev pub invariant-pieces : goal.invariant-pieces
invariant-pieces l =
    (put l.made.items (formatted l.values l.rest l.at) ≡ formatted l.values l.initial.rest 0) × (l.at + length l.rest ≤ length l.initial.rest)

abbrev pub decreases-pieces : goal.decreases-pieces
decreases-pieces l = length l.rest
