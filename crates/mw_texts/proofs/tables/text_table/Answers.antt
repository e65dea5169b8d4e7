use Rattle.std.proofs.Common.{◌∙◌, ap}
use Rattle.mw_ustrings.specs.LuaHeapHeap.{new_table}
use Rattle.mw_ustrings.specs.LuaGraphPut.{filled}
use Rattle.mw_ustrings.specs.LuaStoreSeen.{StoreView}
use Rattle.mw_ustrings.specs.LuaMeaningTexts.{text_entries}
use Rattle.mw_texts.proofs.TextTables.{texts_put}
use Rattle.mw_texts.proofs.tables.text_table.Goals as goal

pub returns-clause-made : goal.returns-clause-made
returns-clause-made c =
    let h = c.args.store.now.heap in
    c.in_ok-fill.ensures.filled ∙ ap (filled c.in_ok-table.table.at (text_entries 1 c.args.texts.now)) (ap (λ (s : StoreView). s.heap) c.in_ok-table.ensures.made)
    ∙ ap (λ n. filled n (text_entries 1 c.args.texts.now) (new_table h).0) c.in_ok-table.ensures.id ∙ texts_put h c.args.texts.now
