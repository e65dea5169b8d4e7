use Rattle.std.proofs.Common.{refl, sym, subst, arith}
use Rattle.std.specs.List.{AllByRecursion}
use Rattle.lua_strings.specs.LuaMeaningHtmlNodes.{is_attr}
use Rattle.lua_strings.specs.LuaStoreSeen.{text_at, seen_pair}
use Rattle.lua_strings.specs.LuaStoreParts.{IsPairOf}
use Rattle.mw_htmls.proofs.Settled.{passed_on, found_there, found_nowhere, all_dropped}
use Rattle.mw_htmls.proofs.lists.pair_place.Goals as goal

pub places-init : goal.places-init
places-init c = λ new. refl

pub is_same_text-requires-clause-a : goal.is_same_text-requires-clause-a
is_same_text-requires-clause-a c =
    let s = c.args.store.now in
    (subst (AllByRecursion (IsPairOf s)) c.pair_at.ensures (all_dropped (IsPairOf s) c.places.place c.args.pairs.now c.requires.pairs)).0.0

pub places-preserved : goal.places-preserved
places-preserved c =
    let texts = c.args.store.now.texts in
    passed_on (seen_pair texts) (is_attr (text_at texts c.args.name.at)) c.args.pairs.now c.places.place c.pair_at.result c.pair_at.ensures (sym c.if-is_same_text.ensures) c.places.invariant

pub returns-then-is_same_text-clause-place : goal.returns-then-is_same_text-clause-place
returns-then-is_same_text-clause-place c =
    let texts = c.args.store.now.texts in
    found_there (seen_pair texts) (is_attr (text_at texts c.args.name.at)) c.args.pairs.now c.places.place c.pair_at.result c.pair_at.ensures (sym c.if-is_same_text.ensures) c.places.invariant

pub returns-clause-place : goal.returns-clause-place
returns-clause-place c =
    let texts = c.args.store.now.texts in
    found_nowhere (seen_pair texts) (is_attr (text_at texts c.args.name.at)) c.args.pairs.now c.places.place (omega arith) c.places.invariant
