use Rattle.std.proofs.Common.{◌∙◌, ap}
use Rattle.mw_ustrings.specs.LuaHeapHeap.{table_at}
use Rattle.mw_ustrings.specs.LuaHeapTable.{get}
use Rattle.mw_texts.proofs.listing.value_at.Goals as goal

pub get-requires-clause-key : goal.get-requires-clause-key
get-requires-clause-key c = c.number_at.ensures.of c.args.store.now

pub returns-clause-value : goal.returns-clause-value
returns-clause-value c = c.get.ensures.value ∙ ap (get (table_at c.args.store.now.heap c.args.table.at).entries) (c.number_at.ensures.value c.args.store.now.texts)
