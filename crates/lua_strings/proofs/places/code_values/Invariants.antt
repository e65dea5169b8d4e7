use Rattle.std.proofs.Common.{◌≡◌, ◌++◌, ℕ, List, length}
use Rattle.lua_basic.specs.LuaStoreSeen.{StoreView}
use Rattle.lua_basic.specs.Seen.{values_seen, AllOf}
use Rattle.lua_basic.specs.LuaMeaningStrings.{code_values}
use Rattle.lua_strings.proofs.places.code_values.Given as goal

abbrev pub invariant-bytes : goal.invariant-bytes
invariant-bytes l = ((s : StoreView) → AllOf s l.values) × ((texts : List (List ℕ)) → values_seen texts l.values ++ code_values l.rest ≡ code_values l.bytes)

abbrev pub decreases-bytes : goal.decreases-bytes
decreases-bytes l = length l.rest
