use Rattle.std.proofs.Common.{◌≡◌, ◌∙◌, ap, length}
use Rattle.lua_strings.specs.LuaHeapProc.{Proc}
use Rattle.mw_html.specs.LuaHeapHeap.{Heap, MarkupNode, new_markup}
use Rattle.lua_strings.specs.LuaMeaningHtmlNodes.{new_node}
use Rattle.lua_strings.specs.LuaStoreSeen.{StoreView, seen_node}
use Rattle.mw_htmls.specs.Nodes.{parent_seen}
use Rattle.mw_htmls.proofs.nodes.make.Goals as goal

pub new_markup-requires : goal.new_markup-requires
new_markup-requires c = c.new_node.ensures.of c.text.new.self c.in_ok-text.ensures.of (rw c.in_ok-text.ensures.added c.requires)

pub returns-clause-id : goal.returns-clause-id
returns-clause-id c = c.in_ok-id.ensures.id ∙ ap (λ (s : StoreView). length s.heap.markup) c.in_ok-text.ensures.added

pub returns-clause-made : goal.returns-clause-made
returns-clause-made c =
    let s = c.args.store.now in
    let t = c.text.new.self in
    let same : t.heap ≡ s.heap = ap (λ (x : StoreView). x.heap) c.in_ok-text.ensures.added in
    let node : seen_node t.texts c.new_node.result ≡ new_node c.args.name.now c.args.closed (parent_seen c.args.parent) =
    c.new_node.ensures.node t.texts ∙ ap (λ x. new_node x c.args.closed (parent_seen c.args.parent)) c.in_ok-text.ensures.there in
    ap (λ (x : StoreView). x.heap) c.in_ok-id.ensures.made ∙ ap (λ (h : Heap Proc). (new_markup h (seen_node t.texts c.new_node.result)).0) same ∙ ap (λ (n : MarkupNode). (new_markup s.heap n).0) node
