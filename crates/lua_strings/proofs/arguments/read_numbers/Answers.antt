use Rattle.std.proofs.Common.{◌≡◌, ◌∙◌, ap, subst, sym, rules, w64, to_z, of_z}
use Rattle.lua_basic.specs.LuaStoreSeen.{seen}
use Rattle.lua_basic.specs.Seen.{values_seen, AllOf}
use Rattle.lua_basic.specs.LuaMeaningChecks.{numbers_from}
use Rattle.lua_strings.proofs.Numbered.{behind, all-read, number-read, number-missing}
use Rattle.lua_strings.proofs.arguments.read_numbers.Goals as goal

pub number_in-requires : goal.number_in-requires
number_in-requires c = (subst (AllOf c.args.store.now) c.in-Some.ensures c.values.invariant.0).0

pub returns-in_default-number_in : goal.returns-in_default-number_in
returns-in_default-number_in c = λ function.
    let texts = c.args.store.now.texts in
    let is = ap (values_seen texts) c.in-Some.ensures in
    let more = values_seen texts c.in-Some.more.now in
    let whole = numbers_from 1 function (values_seen texts c.args.args.now) in
    let e = subst (λ vs. behind c.values.numbers (numbers_from c.values.n function vs) ≡ whole) is (c.values.invariant.1 function) in
    rw is (number-missing c.values.numbers c.values.n function (seen texts c.in-Some.value) more whole (sym c.number_in.ensures ∙ c.in_default-number_in.is) e)

pub values-preserved : goal.values-preserved
values-preserved c =
    let s = c.args.store.now in
    let all = subst (AllOf s) c.in-Some.ensures c.values.invariant.0 in
    let wide : to_z w64 (of_z w64 c.in-Some-number_in.number) ≡ c.in-Some-number_in.number = search rules in
    let pushed = rw wide at c.in_ok-push.ensures.ok in (
      all.1,
      λ function.
          let is = ap (values_seen s.texts) c.in-Some.ensures in
          let more = values_seen s.texts c.in-Some.more.now in
          let whole = numbers_from 1 function (values_seen s.texts c.args.args.now) in
          let e = subst (λ vs. behind c.values.numbers (numbers_from c.values.n function vs) ≡ whole) is (c.values.invariant.1 function) in
          number-read c.values.numbers c.push.new.self c.values.n c.in_ok-n.n function (seen s.texts c.in-Some.value) more c.in-Some-number_in.number whole c.in_ok-n.ensures pushed (sym c.number_in.ensures ∙ c.in-Some-number_in.is) e,
    )

pub returns : goal.returns
returns c = λ function.
    let texts = c.args.store.now.texts in
    let whole = numbers_from 1 function (values_seen texts c.args.args.now) in
    all-read c.values.numbers whole (subst (λ vs. behind c.values.numbers (numbers_from c.values.n function (values_seen texts vs)) ≡ whole) c.in_default.ensures (c.values.invariant.1 function))
