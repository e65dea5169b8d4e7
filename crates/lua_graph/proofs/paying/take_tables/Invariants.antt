use Rattle.std.proofs.Common.{drop}
use Rattle.lua_walk.specs.Copy.{tables_cost}
use Rattle.lua_graph.specs.Taken.{places}
use Rattle.lua_graph.proofs.Costs.{Paid}
use Rattle.lua_graph.proofs.paying.take_tables.Given as goal

abbrev pub invariant-loop-at : goal.invariant-loop-at
invariant-loop-at l = Paid (tables_cost l.store.heap (places l.order.keys)) (tables_cost l.store.heap (drop l.at (places l.order.keys))) l.initial.left l.left
