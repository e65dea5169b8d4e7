use Rattle.lua_walk.specs.LuaHeapHeap.{table_at}
use Rattle.lua_walk.specs.Data.{node_of}
use Rattle.lua_graph.specs.Taken.{places}
use Rattle.lua_graph.proofs.Checks.{NodesRead}
use Rattle.lua_graph.proofs.taking.nodes_of.Given as goal

abbrev pub invariant-loop-at : goal.invariant-loop-at
invariant-loop-at l = NodesRead l.store (λ n. node_of (places l.order.keys) (table_at l.store.heap n)) (places l.order.keys) l.initial.texts.keys l.texts.keys l.at l.nodes
