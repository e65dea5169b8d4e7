use Rattle.lua_walk.specs.LuaHeapHeap.{table_at}
use Rattle.lua_store.specs.Seen.{seen}
use Rattle.lua_graph.specs.Taken.{places}
use Rattle.lua_graph.proofs.Checks.{entries_on}
use Rattle.lua_graph.proofs.taking.entries_of.Goals as goal

pub loop-at-preserved : goal.loop-at-preserved
loop-at-preserved c =
    entries_on c.args.store.now (places c.args.order.now.keys) c.args.texts.now.keys (table_at c.args.store.now.heap c.args.table.at).entries
    c.loop-at.texts.keys c.entry_of.new.texts.keys c.loop-at.at c.loop-at.entries c.add.new.entries (seen c.args.store.now.texts c.in-Some.key, seen c.args.store.now.texts c.in-Some.value) c.in-Ok.entry
    c.in-Some.ensures.entry (c.in-Ok.ensures.ok c.args.store.now c.in-Some.ensures.of.0 c.in-Some.ensures.of.1) c.in-Ok-add.ensures.ok c.loop-at.invariant
