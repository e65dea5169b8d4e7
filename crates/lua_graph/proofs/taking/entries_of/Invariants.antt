use Rattle.lua_walk.specs.LuaHeapHeap.{table_at}
use Rattle.lua_graph.specs.Taken.{places}
use Rattle.lua_graph.proofs.Checks.{EntriesRead}
use Rattle.lua_graph.proofs.taking.entries_of.Given as goal

abbrev pub invariant-loop-at : goal.invariant-loop-at
invariant-loop-at l = EntriesRead l.store (places l.order.keys) l.initial.texts.keys l.texts.keys (table_at l.store.heap l.table.at).entries l.at l.entries
