use Rattle.std.proofs.Common.{refl, ap, ◌∙◌, codes}
use Rattle.lua_graph.specs.LuaHeapHeap.{set_in}
use Rattle.lua_basic.specs.LuaHeapValue.{Text}
use Rattle.lua_graph.specs.LuaStoreSeen.{StoreView}
use Rattle.lua_libs.proofs.NewTables.{three-set}
use Rattle.lua_libs.proofs.titles.title_table.Goals as goal

pub returns-clause-made : goal.returns-clause-made
returns-clause-made c =
    let t = c.in_ok-table.table.at in
    let h2 = c.set_text.new.store.heap in
    let h3 = c.set_text-2.new.store.heap in
    let name = c.in_ok-set_text.ensures.put ∙ ap (λ text. set_in c.new_table.new.self.heap t (Text (codes "text")) (Text text)) c.as_slice.ensures in
    let space = c.in_ok-set_text-2.ensures.put ∙ ap (λ text. set_in h2 t (Text (codes "nsText")) (Text text)) (c.as_bytes.ensures.value ∙ c.prefix.ensures) in
    let whole = c.in_ok-set_text-3.ensures.put ∙ ap (λ text. set_in h3 t (Text (codes "prefixedText")) (Text text)) (c.as_slice-2.ensures ∙ c.in_ok-whole.ensures) in
    three-set c.args.store.now.heap c.new_table.new.self.heap h2 h3 c.set_text-3.new.store.heap t _ _ _ (ap (λ (s : StoreView). s.heap) c.in_ok-table.ensures.made) name space whole c.in_ok-table.ensures.id refl refl
