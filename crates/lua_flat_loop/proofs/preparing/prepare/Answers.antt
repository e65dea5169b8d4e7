use Rattle.std.proofs.Common.{◌∙◌, ◌++◌, ℕ, List, map, refl, ap, subst}
use Rattle.lua_flat_code.specs.declared.operand.Constant.{Constant}
use Rattle.lua_flat_loop.specs.Preparing.{constant_value, TextsIn}
use Rattle.lua_flat_loop.proofs.ConstantLaws.{prepared}
use Rattle.lua_flat_loop.proofs.preparing.prepare.Goals as goal

pub returns : goal.returns
returns c =
    let texts = subst (λ (ts : List (List ℕ)). TextsIn c.args.store.now c.texts_in.new.store ts c.in_ok-values.values) c.as_slice.ensures c.in_ok-values.ensures in
    let others = c.in_ok-add_others.ensures ∙ ap (λ (cs : List Constant). c.in_ok-values.values ++ map constant_value cs) c.as_slice-2.ensures in
    prepared c.args.store.now c.texts_in.new.store c.args.title c.args.functions.now (record { title = c.args.title; functions = c.args.functions; constants = c.into_vec.result }) c.in_ok-values.values _ texts c.requires others refl refl c.into_vec.ensures
