use Rattle.std.proofs.Common.{sym}
use Rattle.lua_basic.specs.LuaHeapHeap.{table_at}
use Rattle.lua_home.proofs.LuaGraphPlaces.{drop_at, drop_past}
use Rattle.mw_frames.proofs.reading.entry_at.Goals as goal

pub returns-in-Some-clause-entry : goal.returns-in-Some-clause-entry
returns-in-Some-clause-entry c = drop_at (table_at c.args.store.now.heap c.args.table.at).entries c.args.place _ (sym c.in-Some.ensures.entry)

pub returns-in-None-clause-entry : goal.returns-in-None-clause-entry
returns-in-None-clause-entry c = drop_past (table_at c.args.store.now.heap c.args.table.at).entries c.args.place (sym c.in-None.ensures.entry)
