use Rattle.std.proofs.Common.{◌≡◌}
use Rattle.std.specs.List.{AllByRecursion}
use Rattle.lua_store.specs.Parts.{IsTableOf, IsLater}
use Rattle.lua_graph.specs.Copied.{part_copied}
use Rattle.lua_graph.specs.Taken.{places}
use Rattle.lua_graph.proofs.copying.copy_tables.Given as goal

abbrev pub invariant-loop-at : goal.invariant-loop-at
invariant-loop-at l = record {
  put : l.store ≡ record l.fn.store { heap = part_copied l.fn.store.heap (places l.order.keys) l.at };
  later : IsLater l.fn.store l.store;
  old : AllByRecursion (IsTableOf l.store) l.order.keys;
  new : AllByRecursion (IsTableOf l.store) l.tables;
}
