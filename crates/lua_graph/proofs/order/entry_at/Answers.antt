use Rattle.std.proofs.Common.{sym}
use Rattle.lua_walk.specs.LuaHeapHeap.{table_at}
use Rattle.lua_graph.proofs.Places.{drop_at, drop_past}
use Rattle.lua_graph.proofs.order.entry_at.Goals as goal

pub returns-in-Some-clause-entry : goal.returns-in-Some-clause-entry
returns-in-Some-clause-entry c = drop_at (table_at c.args.store.now.heap c.args.table.at).entries c.args.at _ (sym c.in-Some.ensures.entry)

pub returns-in-None-clause-entry : goal.returns-in-None-clause-entry
returns-in-None-clause-entry c = drop_past (table_at c.args.store.now.heap c.args.table.at).entries c.args.at (sym c.in-None.ensures.entry)
