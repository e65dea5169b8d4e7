use Rattle.std.proofs.Common.{◌++◌, ◌∷◌, [], ◌∙◌, List, ap, sym, subst, append_assoc, map}
use Rattle.lua_format.specs.declared.value.FormatValue.{FormatValue}
use Rattle.lua_basic.specs.Seen.{values_seen, AllOf}
use Rattle.lua_basic.specs.LuaMeaningFormats.{format_value}
use Rattle.lua_strings.proofs.formatting.format_values.Goals as goal

pub format_value-requires : goal.format_value-requires
format_value-requires c = (subst (AllOf c.args.store.now) c.in-Some.ensures c.values.invariant.0).0

pub values-preserved : goal.values-preserved
values-preserved c =
    let s = c.args.store.now in
    let all = subst (AllOf s) c.in-Some.ensures c.values.invariant.0 in
    let more = map format_value (values_seen s.texts c.in-Some.more.now) in (
      all.1,
      ap (λ (l : List FormatValue). l ++ more) c.in_ok-push.ensures.ok ∙ append_assoc c.values.made (c.in_ok-item.item ∷ []) more
          ∙ ap (λ x. c.values.made ++ x ∷ more) c.in_ok-item.ensures
          ∙ sym (ap (λ vs. c.values.made ++ map format_value (values_seen s.texts vs)) c.in-Some.ensures) ∙ c.values.invariant.1,
    )
