use Rattle.std.proofs.Common.{◌≡◌, ◌∙◌, ap, sym, arith, map}
use Rattle.mw_html.specs.LuaHeapHeap.{MarkupNode as SeenNode, markup_at}
use Rattle.lua_strings.specs.LuaMeaningHtmlNodes.{attrs_with}
use Rattle.lua_strings.specs.LuaStoreSeen.{StoreView, text_at, seen_pair}
use Rattle.mw_htmls.specs.Nodes.{bytes_in, text_seen}
use Rattle.mw_htmls.proofs.Changed.{set_there_attrs, attrs_put, node_with_attrs}
use Rattle.mw_htmls.proofs.Settled.{value_later}
use Rattle.mw_htmls.proofs.settings.set_attr.Goals as goal

pub take-node-requires : goal.take-node-requires
take-node-requires c =
    let a = c.in_ok-key.ensures.later.markup in
    let b = c.text_if_any.ensures.later.markup in
    omega (arith, c.requires, a, b)

pub set_pair-requires-clause-pairs : goal.set_pair-requires-clause-pairs
set_pair-requires-clause-pairs c = c.take-node.ensures.of.attrs

pub set_pair-requires-clause-name : goal.set_pair-requires-clause-name
set_pair-requires-clause-name c =
    let of = c.in_ok-key.ensures.of in
    let a = c.text_if_any.ensures.later.texts.length_ in
    let b = c.take-node.ensures.later.texts.length_ in
    omega (arith, of, a, b)

pub set_pair-requires-clause-value : goal.set_pair-requires-clause-value
set_pair-requires-clause-value c = value_later c.text_if_any.new.store c.take-node.new.store c.take-node.ensures.later c.in_ok-text.text c.in_ok-text.ensures.of

pub put-requires-clause-node : goal.put-requires-clause-node
put-requires-clause-node c = node_with_attrs c.take-node.new.store c.take-node.result c.set_pair.new.pairs c.take-node.ensures.of c.in_ok-set_pair.ensures.of

pub returns-clause-set : goal.returns-clause-set
returns-clause-set c =
    let s = c.args.store.now in
    let u = c.text_if_any.new.store in
    let t = c.take-node.new.store in
    let m = c.args.id.at in
    let key = c.in_ok-key.key in
    let text = c.in_ok-text.text in
    let node = c.take-node.result in
    let new = c.set_pair.new.pairs in
    let texts : t.texts ≡ u.texts = ap (λ (x : StoreView). x.texts) c.take-node.ensures.taken.1 in
    let name : text_at u.texts key.at ≡ c.args.name.now = c.text_if_any.ensures.later.texts.same key.at c.in_ok-key.ensures.of ∙ c.in_ok-key.ensures.there in
    let heap : u.heap ≡ s.heap = c.text_if_any.ensures.heap ∙ ap (λ (x : StoreView). x.heap) c.in_ok-key.ensures.added in
    let was : map (seen_pair u.texts) node.attrs ≡ (markup_at u.heap m).attrs = sym (ap (λ ts. map (seen_pair ts) node.attrs) texts) ∙ ap (λ (n : SeenNode). n.attrs) c.take-node.ensures.node in
    let made = sym (ap (λ ts. map (seen_pair ts) new) texts) ∙ c.in_ok-set_pair.ensures.made
    ∙ ap (λ ts. attrs_with (text_at ts key.at) (text_seen ts text) (map (seen_pair ts) node.attrs)) texts
    ∙ ap (λ n. attrs_with n (text_seen u.texts text) (map (seen_pair u.texts) node.attrs)) name
    ∙ ap (λ v. attrs_with c.args.name.now v (map (seen_pair u.texts) node.attrs)) c.in_ok-text.ensures.there
    ∙ ap (attrs_with c.args.name.now (bytes_in c.args.value)) was in
    set_there_attrs s.heap u c.put.new.store m _ (attrs_with c.args.name.now (bytes_in c.args.value)) heap made
    (attrs_put u t c.put.new.store m node new c.take-node.ensures.taken c.take-node.ensures.node c.put.ensures.put)
