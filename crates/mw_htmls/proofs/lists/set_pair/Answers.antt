use Rattle.std.proofs.Common.{◌≡◌, ◌∙◌, ap, sym, subst, map}
use Rattle.std.specs.List.{AllByRecursion}
use Rattle.lua_strings.specs.LuaMeaningHtmlNodes.{is_attr, attr_of, settled}
use Rattle.lua_strings.specs.LuaStoreSeen.{text_at, seen_pair}
use Rattle.lua_strings.specs.LuaStoreParts.{IsPairOf}
use Rattle.mw_htmls.specs.Nodes.{text_seen, pair_of}
use Rattle.mw_htmls.specs.Settled.{settled_at, settled_seen}
use Rattle.mw_htmls.proofs.Settled.{seen_settled, all_settled, pair_seen, pair_of_is}
use Rattle.mw_htmls.proofs.lists.set_pair.Goals as goal

pub pair_place-place-requires-clause-pairs : goal.pair_place-place-requires-clause-pairs
pair_place-place-requires-clause-pairs c =
    let s = c.args.store.now in
    subst (AllByRecursion (IsPairOf s)) (sym (c.as_slice.ensures.value ∙ c.into_vec-items.ensures ∙ c.replace.ensures.value)) c.requires.pairs

pub returns-clause-made : goal.returns-clause-made
returns-clause-made c =
    let texts = c.args.store.now.texts in
    let f = seen_pair texts in
    let old = c.args.pairs.now in
    let name = text_at texts c.args.name.at in
    let value = text_seen texts c.args.value in
    let new = attr_of name value in
    let slice = c.as_slice.ensures.value ∙ c.into_vec-items.ensures ∙ c.replace.ensures.value in
    let place = c.pair_place-place.result in
    ap (map f) (c.of_vec.ensures ∙ c.in_ok-settle.ensures ∙ ap (λ xs. settled_at place xs c.into_vec-items.result.items) c.pair_with.ensures)
    ∙ seen_settled f place (pair_of c.args.name c.args.value) c.into_vec-items.result.items
    ∙ ap (λ xs. settled_seen f place xs c.into_vec-items.result.items) (pair_seen texts c.args.name c.args.value)
    ∙ ap (λ xs. settled_seen f place new xs) (sym c.as_slice.ensures.value)
    ∙ sym (c.pair_place-place.ensures.place new)
    ∙ ap (λ xs. settled (is_attr name) new (map f xs)) slice

pub returns-clause-of : goal.returns-clause-of
returns-clause-of c =
    let s = c.args.store.now in
    let old = subst (AllByRecursion (IsPairOf s)) (sym (c.into_vec-items.ensures ∙ c.replace.ensures.value)) c.requires.pairs in
    let some = subst (AllByRecursion (IsPairOf s)) (sym c.pair_with.ensures) (pair_of_is s c.args.name c.args.value c.requires.name c.requires.value) in
    subst (AllByRecursion (IsPairOf s)) (sym (c.of_vec.ensures ∙ c.in_ok-settle.ensures)) (all_settled (IsPairOf s) c.pair_place-place.result _ c.into_vec-items.result.items some old)
