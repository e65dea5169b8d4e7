use Rattle.std.proofs.Common.{◌∙◌, ap, map}
use Rattle.mw_html.specs.LuaHeapHeap.{MarkupNode}
use Rattle.lua_strings.specs.LuaMeaningHtmlNodes as nodes
use Rattle.lua_strings.specs.LuaStoreSeen.{text_at, seen_pair}
use Rattle.mw_htmls.proofs.classes.attribute_named.Goals as goal

pub value_named-requires-clause-pairs : goal.value_named-requires-clause-pairs
value_named-requires-clause-pairs c = rw c.as_slice.ensures c.markup.ensures.of.attrs

pub returns : goal.returns
returns c =
    let texts = c.args.store.now.texts in
    let name = text_at texts c.args.name.at in
    c.value_named.ensures ∙ ap (λ xs. nodes.value_of name (map (seen_pair texts) xs)) c.as_slice.ensures
    ∙ ap (λ (n : MarkupNode). nodes.value_of name n.attrs) c.markup.ensures.node
