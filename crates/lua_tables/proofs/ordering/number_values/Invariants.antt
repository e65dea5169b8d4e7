use Rattle.std.proofs.Common.{◌≡◌, ◌++◌, ℕ, List, length, map}
use Rattle.lua_basic.specs.LuaHeapValue.{Number}
use Rattle.lua_basic.specs.LuaStoreSeen.{StoreView}
use Rattle.lua_basic.specs.Seen.{values_seen, AllOf}
use Rattle.lua_tables.proofs.ordering.number_values.Given as goal

abbrev pub invariant-numbers : goal.invariant-numbers
invariant-numbers l =
    ((s : StoreView) → AllOf s l.values)
    × ((texts : List (List ℕ)) → values_seen texts l.values ++ map Number l.rest ≡ map Number l.fn.numbers)

abbrev pub decreases-numbers : goal.decreases-numbers
decreases-numbers l = length l.rest
