use Rattle.std.proofs.Common.{◌≡◌, ◌∙◌, ap, sym, subst, map}
use Rattle.std.specs.List.{AllByRecursion}
use Rattle.lua_strings.specs.LuaMeaningHtmlNodes.{is_item, item_of, settled}
use Rattle.lua_strings.specs.LuaStoreSeen.{text_at, seen_style}
use Rattle.lua_strings.specs.LuaStoreParts.{IsStyleOf}
use Rattle.mw_htmls.specs.Nodes.{text_seen, style_of}
use Rattle.mw_htmls.specs.Settled.{settled_at, settled_seen}
use Rattle.mw_htmls.proofs.Settled.{seen_settled, all_settled, style_seen, style_of_is}
use Rattle.mw_htmls.proofs.lists.set_item.Goals as goal

pub style_place-place-requires-clause-styles : goal.style_place-place-requires-clause-styles
style_place-place-requires-clause-styles c =
    let s = c.args.store.now in
    subst (AllByRecursion (IsStyleOf s)) (sym (c.as_slice.ensures.value ∙ c.into_vec-items.ensures ∙ c.replace.ensures.value)) c.requires.styles

pub returns-clause-made : goal.returns-clause-made
returns-clause-made c =
    let texts = c.args.store.now.texts in
    let f = seen_style texts in
    let old = c.args.styles.now in
    let name = text_at texts c.args.name.at in
    let value = text_seen texts c.args.value in
    let new = item_of name value in
    let slice = c.as_slice.ensures.value ∙ c.into_vec-items.ensures ∙ c.replace.ensures.value in
    let place = c.style_place-place.result in
    ap (map f) (c.of_vec.ensures ∙ c.in_ok-settle.ensures ∙ ap (λ xs. settled_at place xs c.into_vec-items.result.items) c.style_with.ensures)
    ∙ seen_settled f place (style_of c.args.name c.args.value) c.into_vec-items.result.items
    ∙ ap (λ xs. settled_seen f place xs c.into_vec-items.result.items) (style_seen texts c.args.name c.args.value)
    ∙ ap (λ xs. settled_seen f place new xs) (sym c.as_slice.ensures.value)
    ∙ sym (c.style_place-place.ensures.place new)
    ∙ ap (λ xs. settled (is_item name) new (map f xs)) slice

pub returns-clause-of : goal.returns-clause-of
returns-clause-of c =
    let s = c.args.store.now in
    let old = subst (AllByRecursion (IsStyleOf s)) (sym (c.into_vec-items.ensures ∙ c.replace.ensures.value)) c.requires.styles in
    let some = subst (AllByRecursion (IsStyleOf s)) (sym c.style_with.ensures) (style_of_is s c.args.name c.args.value c.requires.name c.requires.value) in
    subst (AllByRecursion (IsStyleOf s)) (sym (c.of_vec.ensures ∙ c.in_ok-settle.ensures)) (all_settled (IsStyleOf s) c.style_place-place.result _ c.into_vec-items.result.items some old)
