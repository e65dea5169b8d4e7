use Rattle.std.proofs.Common.{◌≡◌, ◌∙◌, ap, sym, subst, refl, rules, map, [], Some}
use Rattle.std.specs.List.{AllByRecursion}
use Rattle.lua_strings.specs.LuaMeaningHtmlNodes as nodes
use Rattle.lua_strings.specs.LuaStoreSeen.{seen_pair}
use Rattle.lua_strings.specs.LuaStoreParts.{IsPairOf}
use Rattle.mw_htmls.proofs.Valued.{value_hit, value_miss}
use Rattle.mw_htmls.proofs.classes.value_of.Goals as goal

pub each-init : goal.each-init
each-init c = (c.requires, refl)

pub is_called-requires : goal.is_called-requires
is_called-requires c = (subst (AllByRecursion (IsPairOf c.args.store.now)) c.in-Some.ensures c.each.invariant.0).0.0

pub bytes-requires : goal.bytes-requires
bytes-requires c = (subst (AllByRecursion (IsPairOf c.args.store.now)) c.in-Some.ensures c.each.invariant.0).0.1

pub each-preserved : goal.each-preserved
each-preserved c =
    let texts = c.args.store.now.texts in
    let all = subst (AllByRecursion (IsPairOf c.args.store.now)) c.in-Some.ensures c.each.invariant.0 in (
      all.1,
      sym (value_miss c.args.name.now (seen_pair texts c.in-Some.pair) (map (seen_pair texts) c.in-Some.more.now) (sym c.if-is_called.ensures))
          ∙ ap (λ xs. nodes.value_of c.args.name.now (map (seen_pair texts) xs)) (sym c.in-Some.ensures) ∙ c.each.invariant.1,
    )

pub returns-then-is_called : goal.returns-then-is_called
returns-then-is_called c =
    let texts = c.args.store.now.texts in
    ap Some c.bytes.ensures ∙ sym (value_hit c.args.name.now (seen_pair texts c.in-Some.pair) (map (seen_pair texts) c.in-Some.more.now) (sym c.if-is_called.ensures))
    ∙ ap (λ xs. nodes.value_of c.args.name.now (map (seen_pair texts) xs)) (sym c.in-Some.ensures) ∙ c.each.invariant.1

pub returns : goal.returns
returns c =
    let texts = c.args.store.now.texts in
    let none : c.each.rest.now ≡ [] = search rules in
    ap (λ xs. nodes.value_of c.args.name.now (map (seen_pair texts) xs)) (sym none) ∙ c.each.invariant.1
