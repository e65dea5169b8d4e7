use Rattle.std.proofs.Common.{refl, sym, subst, arith}
use Rattle.std.specs.List.{AllByRecursion}
use Rattle.lua_strings.specs.LuaMeaningHtmlNodes.{is_item}
use Rattle.lua_strings.specs.LuaStoreSeen.{text_at, seen_style}
use Rattle.lua_strings.specs.LuaStoreParts.{IsStyleOf}
use Rattle.mw_htmls.proofs.Settled.{passed_on, found_there, found_nowhere, all_dropped}
use Rattle.mw_htmls.proofs.lists.style_place.Goals as goal

pub places-init : goal.places-init
places-init c = λ new. refl

pub is_item-requires-clause-style : goal.is_item-requires-clause-style
is_item-requires-clause-style c =
    let s = c.args.store.now in
    (subst (AllByRecursion (IsStyleOf s)) c.style_at.ensures (all_dropped (IsStyleOf s) c.places.place c.args.styles.now c.requires.styles)).0

pub places-preserved : goal.places-preserved
places-preserved c =
    let texts = c.args.store.now.texts in
    passed_on (seen_style texts) (is_item (text_at texts c.args.name.at)) c.args.styles.now c.places.place c.style_at.result c.style_at.ensures (sym c.if-is_item.ensures) c.places.invariant

pub returns-then-is_item-clause-place : goal.returns-then-is_item-clause-place
returns-then-is_item-clause-place c =
    let texts = c.args.store.now.texts in
    found_there (seen_style texts) (is_item (text_at texts c.args.name.at)) c.args.styles.now c.places.place c.style_at.result c.style_at.ensures (sym c.if-is_item.ensures) c.places.invariant

pub returns-clause-place : goal.returns-clause-place
returns-clause-place c =
    let texts = c.args.store.now.texts in
    found_nowhere (seen_style texts) (is_item (text_at texts c.args.name.at)) c.args.styles.now c.places.place (omega arith) c.places.invariant
