use Rattle.std.proofs.Common.{◌∙◌, ◌++◌, ap, sym, take, map, ◌∷◌, []}
use Rattle.std.proofs.lemmas.List.{take_more, map-append}
use Rattle.mw_ustrings.specs.LuaBasicArguments.{text_bytes}
use Rattle.mw_texts.proofs.listing.copy_items.Goals as goal

pub each-preserved : goal.each-preserved
each-preserved c =
    let xs = c.args.items.now in
    let i = c.each.item-index in
    let x = c.item-item.result in
    let done = take i xs in
    c.in_ok-push.ensures.ok ∙ ap (λ ts. ts ++ c.in_ok-copy.copy ∷ []) c.each.invariant ∙ ap (λ t. map text_bytes done ++ t ∷ []) (c.in_ok-copy.ensures ∙ c.as_slice.ensures)
    ∙ sym (map-append text_bytes done (x ∷ [])) ∙ ap (λ y. map text_bytes (done ++ y ∷ [])) c.item-item.is ∙ ap (map text_bytes) (sym (take_more xs i x c.each-test.true))
