use Rattle.std.proofs.Common.{◌≡◌, ◌++◌, length}
use Rattle.lua_basic.specs.Seen.{values_seen, AllOf}
use Rattle.lua_basic.specs.LuaMeaningTableLibrary.{behind_parts}
use Rattle.lua_tables.proofs.joining.add_behind.Given as goal

abbrev pub invariant-parts : goal.invariant-parts
invariant-parts l =
    AllOf l.fn.store l.rest
    × (l.text.items ++ behind_parts l.fn.separator (values_seen l.fn.store.texts l.rest) ≡ l.initial.text.items ++ behind_parts l.fn.separator (values_seen l.fn.store.texts l.fn.values))

abbrev pub decreases-parts : goal.decreases-parts
decreases-parts l = length l.rest
