use Rattle.std.proofs.Common.{◌≡◌, drop}
use Rattle.std.specs.List.{AllByRecursion}
use Rattle.lua_walk.specs.LuaHeapHeap.{table_at}
use Rattle.lua_walk.specs.Order.{with_entries, with_links}
use Rattle.lua_store.specs.Parts.{IsTableOf}
use Rattle.lua_graph.specs.Taken.{places}
use Rattle.lua_graph.proofs.order.reach_links.Given as goal

abbrev pub invariant-loop-at : goal.invariant-loop-at
invariant-loop-at l = record {
  of : AllByRecursion (IsTableOf l.store) l.order.keys;
  more : with_entries (places l.order.keys) (drop l.at (table_at l.store.heap l.table.at).entries) ≡ with_links (places l.fn.order.keys) (table_at l.store.heap l.table.at);
}
