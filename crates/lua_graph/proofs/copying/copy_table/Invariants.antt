use Rattle.std.proofs.Common.{◌≡◌, ℕ, drop}
use Rattle.lua_walk.specs.LuaHeapHeap.{table_at}
use Rattle.lua_store.specs.Parts.{IsLater}
use Rattle.lua_graph.specs.Copied.{copied_entries}
use Rattle.lua_graph.specs.Put.{filled, AreFrom}
use Rattle.lua_graph.specs.Taken.{places}
use Rattle.lua_graph.proofs.copying.copy_table.Given as goal

abbrev pub invariant-loop-at : goal.invariant-loop-at
invariant-loop-at l = record {
  only : l.store ≡ record l.fn.store { heap = l.store.heap };
  later : IsLater l.fn.store l.store;
  same : table_at l.store.heap l.source.at ≡ table_at l.fn.store.heap l.source.at;
  more : (k : ℕ) → AreFrom k l.tables → filled l.target.at (copied_entries k (places l.order.keys) (drop l.at (table_at l.fn.store.heap l.source.at).entries)) l.store.heap
      ≡ filled l.target.at (copied_entries k (places l.order.keys) (table_at l.fn.store.heap l.source.at).entries) l.initial.store.heap;
}
