use Rattle.std.proofs.Common.{◌≡◌, ◌∙◌, subst, sym, true, rules, w64, to_z, of_z}
use Rattle.lua_string.specs.Texts.{is_code}
use Rattle.lua_basic.specs.LuaStoreSeen.{seen}
use Rattle.lua_basic.specs.Seen.{values_seen, AllOf}
use Rattle.lua_strings.proofs.Numbered.{CheckedTo, none_checked, one_checked}
use Rattle.lua_strings.proofs.arguments.check_each.Goals as goal

pub values-init : goal.values-init
values-init c = (c.requires, none_checked (values_seen c.args.store.now.texts c.args.args.now))

pub number_in-requires : goal.number_in-requires
number_in-requires c = (subst (AllOf c.args.store.now) c.in-Some.ensures c.values.invariant.0).0

pub values-preserved : goal.values-preserved
values-preserved c =
    let s = c.args.store.now in
    let z = c.in-Some-number_in.number in
    let wide : to_z w64 (of_z w64 z) ≡ z = search rules in
    let inside : is_code z ≡ true = (rw wide at c.in-Some-byte_with.ensures).0 in
    let here = subst (λ vs. CheckedTo c.values.n (values_seen s.texts vs) (values_seen s.texts c.args.args.now)) c.in-Some.ensures c.values.invariant.1 in (
      (subst (AllOf s) c.in-Some.ensures c.values.invariant.0).1,
      one_checked c.values.n c.in_ok-n.n (seen s.texts c.in-Some.value) (values_seen s.texts c.in-Some.more.now) (values_seen s.texts c.args.args.now) z c.in_ok-n.ensures (sym c.number_in.ensures ∙ c.in-Some-number_in.is) inside here,
    )
