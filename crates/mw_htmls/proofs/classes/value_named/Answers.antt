use Rattle.std.proofs.Common.{◌≡◌, ◌∙◌, ap, sym, subst, refl, rules, map, [], Some}
use Rattle.std.specs.List.{AllByRecursion}
use Rattle.lua_strings.specs.LuaMeaningHtmlNodes as nodes
use Rattle.lua_strings.specs.LuaStoreSeen.{text_at, seen_pair}
use Rattle.lua_strings.specs.LuaStoreParts.{IsPairOf}
use Rattle.mw_htmls.proofs.Valued.{value_hit, value_miss}
use Rattle.mw_htmls.proofs.classes.value_named.Goals as goal

pub each-init : goal.each-init
each-init c = (c.requires.pairs, refl)

pub is_same_text-requires-clause-a : goal.is_same_text-requires-clause-a
is_same_text-requires-clause-a c = (subst (AllByRecursion (IsPairOf c.args.store.now)) c.in-Some.ensures c.each.invariant.0).0.0

pub bytes-requires : goal.bytes-requires
bytes-requires c = (subst (AllByRecursion (IsPairOf c.args.store.now)) c.in-Some.ensures c.each.invariant.0).0.1

pub each-preserved : goal.each-preserved
each-preserved c =
    let texts = c.args.store.now.texts in
    let all = subst (AllByRecursion (IsPairOf c.args.store.now)) c.in-Some.ensures c.each.invariant.0 in (
      all.1,
      sym (value_miss (text_at texts c.args.name.at) (seen_pair texts c.in-Some.pair) (map (seen_pair texts) c.in-Some.more.now) (sym c.if-is_same_text.ensures))
          ∙ ap (λ xs. nodes.value_of (text_at texts c.args.name.at) (map (seen_pair texts) xs)) (sym c.in-Some.ensures) ∙ c.each.invariant.1,
    )

pub returns-then-is_same_text : goal.returns-then-is_same_text
returns-then-is_same_text c =
    let texts = c.args.store.now.texts in
    ap Some c.bytes.ensures ∙ sym (value_hit (text_at texts c.args.name.at) (seen_pair texts c.in-Some.pair) (map (seen_pair texts) c.in-Some.more.now) (sym c.if-is_same_text.ensures))
    ∙ ap (λ xs. nodes.value_of (text_at texts c.args.name.at) (map (seen_pair texts) xs)) (sym c.in-Some.ensures) ∙ c.each.invariant.1

pub returns : goal.returns
returns c =
    let texts = c.args.store.now.texts in
    let none : c.each.rest.now ≡ [] = search rules in
    ap (λ xs. nodes.value_of (text_at texts c.args.name.at) (map (seen_pair texts) xs)) (sym none) ∙ c.each.invariant.1
