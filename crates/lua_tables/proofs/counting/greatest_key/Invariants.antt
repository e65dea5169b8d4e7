use Rattle.lua_basic.specs.LuaHeapHeap.{table_at}
use Rattle.lua_tables.proofs.Reading.{Counting}
use Rattle.lua_tables.proofs.counting.greatest_key.Given as goal

abbrev pub invariant-entries : goal.invariant-entries
invariant-entries l = Counting (table_at l.fn.store.heap l.fn.table.at).entries l.at l.greatest l.initial.left l.left
