use Rattle.std.proofs.Common.{◌∙◌, ◌++◌, ◌∷◌, [], ap, sym, refl, map, take}
use Rattle.std.proofs.lemmas.List.{map-append, take_more}
use Rattle.mw_html.specs.LuaHeapHeap.{ChildText}
use Rattle.lua_strings.specs.LuaStoreSeen.{StoreView}
use Rattle.lua_strings.proofs.LuaStoreLater.{later-itself, later-then}
use Rattle.lua_strings.specs.LuaBasicArguments.{text_bytes}
use Rattle.mw_htmls.proofs.Changed.{text_added}
use Rattle.mw_htmls.proofs.children.text_children.Goals as goal

pub each-init : goal.each-init
each-init c = rw c.new-children.ensures (tt, refl, refl, later-itself c.args.store.now)

pub each-preserved : goal.each-preserved
each-preserved c =
    let i = c.each.invariant in
    let s = c.each.store in
    let t = c.text.new.self in
    let xs = c.args.texts.now in
    let at = c.each.text-index in
    let x = c.text-item.result in
    let later = c.text.ensures.later in
    let there = c.in_ok-id.ensures.there ∙ c.as_slice.ensures in
    let added = text_added s t c.each.children c.push.new.self c.in_ok-id.id (text_bytes x) later i.0 c.in_ok-push.ensures.ok c.in_ok-id.ensures.of there in (
      added.0,
      added.1 ∙ ap (λ ys. ys ++ ChildText (text_bytes x) ∷ []) i.1 ∙ sym (map-append ChildText (map text_bytes (take at xs)) (text_bytes x ∷ [])) ∙ ap (map ChildText) (sym (map-append text_bytes (take at xs) (x ∷ [])))
          ∙ ap (λ y. map ChildText (map text_bytes (take at xs ++ y ∷ []))) c.text-item.is ∙ ap (λ ys. map ChildText (map text_bytes ys)) (sym (take_more xs at x c.each-test.true)),
      ap (λ (y : StoreView). y.heap) c.in_ok-id.ensures.added ∙ i.2,
      later-then c.args.store.now s t i.3 later,
    )
