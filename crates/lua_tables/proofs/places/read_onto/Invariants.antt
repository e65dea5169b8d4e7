use Rattle.std.proofs.Common.{◌≡◌, ◌++◌, ◌-◌, ◌+ℤ◌, pos}
use Rattle.lua_basic.specs.LuaHeapHeap.{table_at}
use Rattle.lua_basic.specs.LuaMeaningBasic.{entries_from}
use Rattle.lua_basic.specs.Seen.{values_seen, AllOf}
use Rattle.lua_tables.proofs.places.read_onto.Given as goal

-- what is read and what is still to read are all
abbrev pub invariant-numbers : goal.invariant-numbers
invariant-numbers l =
    let es = (table_at l.fn.store.heap l.fn.table.at).entries in
    (AllOf l.fn.store l.initial.values → AllOf l.fn.store l.values)
    × (values_seen l.fn.store.texts l.values ++ entries_from (l.fn.count - l.offset) (l.fn.first +ℤ pos l.offset) es ≡ values_seen l.fn.store.texts l.initial.values ++ entries_from l.fn.count l.fn.first es)
