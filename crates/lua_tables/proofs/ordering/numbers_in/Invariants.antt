use Rattle.std.proofs.Common.{◌≡◌, ◌++◌, ℕ, List, length}
use Rattle.lua_basic.specs.Seen.{values_seen}
use Rattle.lua_tables.specs.Kinds.{numbers_in}
use Rattle.lua_tables.proofs.ordering.numbers_in.Given as goal

abbrev pub invariant-values : goal.invariant-values
invariant-values l = (texts : List (List ℕ)) → l.numbers ++ numbers_in (values_seen texts l.rest) ≡ numbers_in (values_seen texts l.fn.values)

abbrev pub decreases-values : goal.decreases-values
decreases-values l = length l.rest
