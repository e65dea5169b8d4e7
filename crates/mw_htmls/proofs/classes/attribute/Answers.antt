use Rattle.std.proofs.Common.{◌∙◌, ap, map}
use Rattle.mw_html.specs.LuaHeapHeap.{MarkupNode}
use Rattle.lua_strings.specs.LuaMeaningHtmlNodes as nodes
use Rattle.lua_strings.specs.LuaStoreSeen.{seen_pair}
use Rattle.mw_htmls.proofs.classes.attribute.Goals as goal

pub value_of-requires : goal.value_of-requires
value_of-requires c = rw c.as_slice.ensures c.markup.ensures.of.attrs

pub returns : goal.returns
returns c =
    let texts = c.args.store.now.texts in
    c.value_of.ensures ∙ ap (λ xs. nodes.value_of c.args.name.now (map (seen_pair texts) xs)) c.as_slice.ensures
    ∙ ap (λ (n : MarkupNode). nodes.value_of c.args.name.now n.attrs) c.markup.ensures.node
