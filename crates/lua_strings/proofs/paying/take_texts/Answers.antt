use Rattle.std.proofs.Common.{◌∙◌, ap, subst}
use Rattle.lua_basic.specs.LuaMeaningArguments.{text_charge}
use Rattle.lua_basic.specs.Seen.{values_seen, AllOf}
use Rattle.lua_strings.proofs.Taken.{taken_more}
use Rattle.lua_strings.proofs.paying.take_texts.Goals as goal

pub values-preserved : goal.values-preserved
values-preserved c =
    let s = c.args.store.now in
    let more = c.in-Some.more.now in
    let all = subst (AllOf s) c.in-Some.ensures c.values.invariant.0 in (
      all.1,
      taken_more c.args.left.now c.values.left c.take.new.left (text_charge (values_seen s.texts c.values.rest.now)) (text_charge (values_seen s.texts more)) (text_charge (values_seen s.texts c.args.args.now)) c.text_cost.result c.values.invariant.1
          (ap (λ vs. text_charge (values_seen s.texts vs)) c.in-Some.ensures ∙ c.text_cost.ensures (values_seen s.texts more)) c.in_ok-take.ensures,
    )
