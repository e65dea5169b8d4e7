use Rattle.std.proofs.Common.{◌≡◌, ◌∙◌, ap, sym, refl, rules, [], ◌++◌, append-nil}
use Rattle.mw_frame_texts.specs.LuaBasicSeen.{values_seen}
use Rattle.mw_frame_texts.proofs.LuaStoreLater.{later-itself}
use Rattle.mw_frame_texts.specs.LuaMeaningUstring.{point_values}
use Rattle.mw_ustrings.proofs.Values.{one_more_of, one_more_now}
use Rattle.mw_ustrings.proofs.parts.point_values.Goals as goal

pub each-init : goal.each-init
each-init c = rw c.new-values.ensures (λ s. tt, λ texts. refl)

pub each-preserved : goal.each-preserved
each-preserved c =
    let old = c.each.values in
    let v = c.point_value.result in (
      λ s. one_more_of s s old c.push.new.self v (later-itself s) (c.each.invariant.0 s) (c.point_value.ensures.of s) c.in_ok-push.ensures.ok,
      λ texts. one_more_now texts old c.push.new.self v _ (point_values c.in-Some.more.now) (point_values c.args.codes.now) c.in_ok-push.ensures.ok (c.point_value.ensures.value texts)
          (ap (λ xs. values_seen texts old ++ point_values xs) (sym c.in-Some.ensures) ∙ c.each.invariant.1 texts),
    )

pub returns-clause-values : goal.returns-clause-values
returns-clause-values c = λ texts.
    let none : c.each.left.now ≡ [] = search rules in
    sym (append-nil (values_seen texts c.each.values)) ∙ ap (λ xs. values_seen texts c.each.values ++ point_values xs) (sym none) ∙ c.each.invariant.1 texts
