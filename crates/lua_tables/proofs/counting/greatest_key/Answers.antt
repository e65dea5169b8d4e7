use Rattle.std.proofs.Common.{◌≡◌, ◌∙◌, sym, rules, w64, to_z, of_z}
use Rattle.lua_basic.specs.LuaStoreSeen.{seen}
use Rattle.lua_basic.specs.LuaHeapHeap.{table_at}
use Rattle.lua_tables.proofs.Reading.{counting-on, counting-all}
use Rattle.lua_tables.proofs.counting.greatest_key.Goals as goal

pub returns-in-None : goal.returns-in-None
returns-in-None c =
    counting-all (table_at c.args.store.now.heap c.args.table.at).entries c.entries.at _ c.args.left.now c.entries.left (sym c.in-None.ensures.entry) c.entries.invariant

pub entries-preserved : goal.entries-preserved
entries-preserved c =
    let texts = c.args.store.now.texts in
    let whole : to_z w64 (of_z w64 c.greater_key-greatest.result) ≡ c.greater_key-greatest.result = search rules in
    counting-on (table_at c.args.store.now.heap c.args.table.at).entries c.entries.at _ _ (seen texts c.in-Some.key, seen texts c.in-Some.value) c.args.left.now c.entries.left c.take.new.left
    (sym c.in-Some.ensures.entry) (whole ∙ c.greater_key-greatest.ensures texts) c.in_ok-take-in-Some.ensures c.entries.invariant
