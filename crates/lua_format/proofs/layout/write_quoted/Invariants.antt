use Rattle.std.proofs.Common.{◌≡◌, ◌++◌, length}
use Rattle.lua_format.specs.Layouts.{quoted_bytes}
use Rattle.lua_format.proofs.layout.write_quoted.Given as goal

abbrev pub invariant-bytes : goal.invariant-bytes
invariant-bytes l = l.out.items ++ quoted_bytes l.rest ≡ l.initial.out.items ++ quoted_bytes l.initial.rest

abbrev pub decreases-bytes : goal.decreases-bytes
decreases-bytes l = length l.rest
