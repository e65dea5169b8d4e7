use Rattle.std.proofs.Common.{◌*◌, length, drop}
use Rattle.lua_walk.specs.LuaHeapHeap.{table_at}
use Rattle.lua_walk.specs.Order.{live}
use Rattle.lua_graph.specs.Copied.{table_cost}
use Rattle.lua_graph.proofs.Costs.{Paid}
use Rattle.lua_graph.proofs.paying.take_table.Given as goal

abbrev pub invariant-loop-at : goal.invariant-loop-at
invariant-loop-at l = Paid (table_cost (table_at l.store.heap l.table.at)) (4 * length (live (drop l.at (table_at l.store.heap l.table.at).entries))) l.fn.left l.left
