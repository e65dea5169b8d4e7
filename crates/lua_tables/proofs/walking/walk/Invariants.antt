use Rattle.lua_basic.specs.LuaHeapHeap.{table_at}
use Rattle.lua_basic.specs.LuaMeaningBasic.{count_between}
use Rattle.lua_tables.specs.Walked.{test_of}
use Rattle.lua_tables.proofs.Reading.{Walking}
use Rattle.lua_tables.proofs.walking.walk.Given as goal

abbrev pub invariant-places : goal.invariant-places
invariant-places l =
    Walking l.fn.store (table_at l.fn.store.heap l.fn.table.at).entries (test_of l.fn.store.texts l.fn.wanted) l.fn.first (count_between l.fn.first l.fn.last) l.offset l.values l.initial.left l.left
