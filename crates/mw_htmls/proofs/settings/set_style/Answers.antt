use Rattle.std.proofs.Common.{◌≡◌, ◌∙◌, ap, sym, arith, map}
use Rattle.mw_html.specs.LuaHeapHeap.{MarkupNode as SeenNode, markup_at}
use Rattle.lua_strings.specs.LuaMeaningHtmlNodes.{styles_with}
use Rattle.lua_strings.specs.LuaStoreSeen.{StoreView, text_at, seen_style}
use Rattle.mw_htmls.specs.Nodes.{bytes_in, text_seen}
use Rattle.mw_htmls.proofs.Changed.{set_there_styles, styles_put, node_with_styles}
use Rattle.mw_htmls.proofs.Settled.{value_later}
use Rattle.mw_htmls.proofs.settings.set_style.Goals as goal

pub take-node-requires : goal.take-node-requires
take-node-requires c =
    let a = c.in_ok-key.ensures.later.markup in
    let b = c.text_if_any.ensures.later.markup in
    omega (arith, c.requires, a, b)

pub set_item-requires-clause-styles : goal.set_item-requires-clause-styles
set_item-requires-clause-styles c = c.take-node.ensures.of.styles

pub set_item-requires-clause-name : goal.set_item-requires-clause-name
set_item-requires-clause-name c =
    let of = c.in_ok-key.ensures.of in
    let a = c.text_if_any.ensures.later.texts.length_ in
    let b = c.take-node.ensures.later.texts.length_ in
    omega (arith, of, a, b)

pub set_item-requires-clause-value : goal.set_item-requires-clause-value
set_item-requires-clause-value c = value_later c.text_if_any.new.store c.take-node.new.store c.take-node.ensures.later c.in_ok-text.text c.in_ok-text.ensures.of

pub put-requires-clause-node : goal.put-requires-clause-node
put-requires-clause-node c = node_with_styles c.take-node.new.store c.take-node.result c.set_item.new.styles c.take-node.ensures.of c.in_ok-set_item.ensures.of

pub returns-clause-set : goal.returns-clause-set
returns-clause-set c =
    let s = c.args.store.now in
    let u = c.text_if_any.new.store in
    let t = c.take-node.new.store in
    let m = c.args.id.at in
    let key = c.in_ok-key.key in
    let text = c.in_ok-text.text in
    let node = c.take-node.result in
    let new = c.set_item.new.styles in
    let texts : t.texts ≡ u.texts = ap (λ (x : StoreView). x.texts) c.take-node.ensures.taken.1 in
    let name : text_at u.texts key.at ≡ c.args.name.now = c.text_if_any.ensures.later.texts.same key.at c.in_ok-key.ensures.of ∙ c.in_ok-key.ensures.there in
    let heap : u.heap ≡ s.heap = c.text_if_any.ensures.heap ∙ ap (λ (x : StoreView). x.heap) c.in_ok-key.ensures.added in
    let was : map (seen_style u.texts) node.styles ≡ (markup_at u.heap m).styles = sym (ap (λ ts. map (seen_style ts) node.styles) texts) ∙ ap (λ (n : SeenNode). n.styles) c.take-node.ensures.node in
    let made = sym (ap (λ ts. map (seen_style ts) new) texts) ∙ c.in_ok-set_item.ensures.made
    ∙ ap (λ ts. styles_with (text_at ts key.at) (text_seen ts text) (map (seen_style ts) node.styles)) texts
    ∙ ap (λ n. styles_with n (text_seen u.texts text) (map (seen_style u.texts) node.styles)) name
    ∙ ap (λ v. styles_with c.args.name.now v (map (seen_style u.texts) node.styles)) c.in_ok-text.ensures.there
    ∙ ap (styles_with c.args.name.now (bytes_in c.args.value)) was in
    set_there_styles s.heap u c.put.new.store m _ (styles_with c.args.name.now (bytes_in c.args.value)) heap made
    (styles_put u t c.put.new.store m node new c.take-node.ensures.taken c.take-node.ensures.node c.put.ensures.put)
