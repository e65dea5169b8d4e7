use Rattle.std.proofs.Common.{◌≡◌, ◌++◌, ◌-◌, ◌+ℤ◌, pos}
use Rattle.lua_store.specs.LuaHeapHeap.{table_at}
use Rattle.lua_meaning.specs.Basic.{entries_from}
use Rattle.lua_basic.specs.Seen.{values_seen, AllOf}
use Rattle.lua_basic.proofs.unpacking.entries_from.Given as goal

-- what is read and what is still to read are all
abbrev pub invariant-numbers : goal.invariant-numbers
invariant-numbers l =
    let es = (table_at l.fn.store.heap l.fn.table.at).entries in
    AllOf l.fn.store l.values × (values_seen l.fn.store.texts l.values ++ entries_from (l.fn.count - l.offset) (l.fn.first +ℤ pos l.offset) es ≡ entries_from l.fn.count l.fn.first es)
