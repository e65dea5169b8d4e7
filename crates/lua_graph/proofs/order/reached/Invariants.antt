use Rattle.std.proofs.Common.{◌≡◌, ◌-◌, length}
use Rattle.std.specs.List.{AllByRecursion}
use Rattle.lua_walk.specs.Order.{visit, reached}
use Rattle.lua_store.specs.Parts.{IsTableOf}
use Rattle.lua_graph.specs.Taken.{places}
use Rattle.lua_graph.proofs.order.reached.Given as goal

abbrev pub invariant-loop-at : goal.invariant-loop-at
invariant-loop-at l = record {
  of : AllByRecursion (IsTableOf l.store) l.order.keys;
  more : visit (length l.store.heap.tables - l.at) l.store.heap l.at (places l.order.keys) ≡ reached l.store.heap l.fn.root.at;
}
