use Rattle.std.proofs.Common.{length}
use Rattle.lua_basic.specs.Seen.{values_seen, AllOf}
use Rattle.lua_basic.specs.LuaMeaningTableLibrary.{behind_parts}
use Rattle.lua_tables.proofs.Taken.{Paying}
use Rattle.lua_tables.proofs.joining.take_behind.Given as goal

-- of all parts those that are left are still to be paid
abbrev pub invariant-parts : goal.invariant-parts
invariant-parts l =
    AllOf l.fn.store l.rest
    × Paying (length (behind_parts l.fn.separator (values_seen l.fn.store.texts l.fn.values))) (length (behind_parts l.fn.separator (values_seen l.fn.store.texts l.rest))) l.initial.left l.left

abbrev pub decreases-parts : goal.decreases-parts
decreases-parts l = length l.rest
