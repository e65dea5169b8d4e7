use Rattle.std.proofs.Common.{◌≡◌, ◌++◌, length}
use Rattle.lua_basic.specs.Seen.{values_seen, AllOf}
use Rattle.lua_strings.specs.Found.{codes_of}
use Rattle.lua_strings.proofs.arguments.bytes_of.Given as goal

abbrev pub invariant-values : goal.invariant-values
invariant-values l = AllOf l.store l.rest × (l.bytes ++ codes_of (values_seen l.store.texts l.rest) ≡ codes_of (values_seen l.store.texts l.values))

abbrev pub decreases-values : goal.decreases-values
decreases-values l = length l.rest
