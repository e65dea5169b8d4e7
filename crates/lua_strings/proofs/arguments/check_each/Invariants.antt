use Rattle.std.proofs.Common.{length}
use Rattle.lua_basic.specs.Seen.{values_seen, AllOf}
use Rattle.lua_strings.proofs.Numbered.{CheckedTo}
use Rattle.lua_strings.proofs.arguments.check_each.Given as goal

abbrev pub invariant-values : goal.invariant-values
invariant-values l = AllOf l.store l.rest × CheckedTo l.n (values_seen l.store.texts l.rest) (values_seen l.store.texts l.args)

abbrev pub decreases-values : goal.decreases-values
decreases-values l = length l.rest
