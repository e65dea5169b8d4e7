use Rattle.std.proofs.Common.{◌≡◌, ◌∙◌, ap, sym, subst, rules, [], ◌++◌, append-nil, map, IsCharBoundary, refl}
use Rattle.std.specs.List.{AllByRecursion}
use Rattle.lua_pattern.specs.Places.{IsCaptureAt}
use Rattle.mw_frame_texts.proofs.LuaStoreLater.{later-then, later-itself}
use Rattle.mw_frame_texts.specs.LuaBasicSeen.{values_seen}
use Rattle.mw_frame_texts.specs.LuaMeaningUstring.{capture_value}
use Rattle.mw_ustrings.proofs.Values.{one_more_of, one_more_seen}
use Rattle.mw_ustrings.proofs.captures.add_captures.Goals as goal

pub each-init : goal.each-init
each-init c = (c.requires.places, c.requires.of, refl, refl, later-itself c.args.store.now)

pub capture_value-requires-clause-place : goal.capture_value-requires-clause-place
capture_value-requires-clause-place c = (subst (AllByRecursion (IsCaptureAt (IsCharBoundary c.args.s.now))) c.in-Some.ensures c.each.invariant.0).0

pub each-preserved : goal.each-preserved
each-preserved c =
    let i = c.each.invariant in
    let s = c.each.store in
    let t = c.capture_value.new.store in
    let old = c.each.values in
    let later = c.capture_value.ensures.later in
    let all = subst (AllByRecursion (IsCaptureAt (IsCharBoundary c.args.s.now))) c.in-Some.ensures i.0 in (
      all.1,
      one_more_of s t old c.push.new.self c.in_ok-value.value later i.1 c.in_ok-value.ensures.of c.in_ok-push.ensures.ok,
      one_more_seen s t old c.push.new.self c.in_ok-value.value _ _ _ later i.1 c.in_ok-push.ensures.ok c.in_ok-value.ensures.value
          (ap (λ xs. values_seen s.texts old ++ map (capture_value c.args.s.now) xs) (sym c.in-Some.ensures) ∙ i.2),
      c.capture_value.ensures.heap ∙ i.3,
      later-then c.args.store.now s t i.4 later,
    )

pub returns-clause-values : goal.returns-clause-values
returns-clause-values c =
    let texts = c.each.store.texts in
    let none : c.each.rest.now ≡ [] = search rules in
    sym (append-nil (values_seen texts c.each.values)) ∙ ap (λ xs. values_seen texts c.each.values ++ map (capture_value c.args.s.now) xs) (sym none) ∙ c.each.invariant.2
