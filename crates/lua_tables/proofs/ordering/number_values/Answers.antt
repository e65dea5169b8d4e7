use Rattle.std.proofs.Common.{◌≡◌, refl, sym, subst, map, rules, w64, to_z, of_z}
use Rattle.lua_basic.specs.LuaHeapValue.{Number}
use Rattle.lua_basic.specs.Seen.{values_seen, AllOf}
use Rattle.lua_basic.proofs.Lists.{all-with}
use Rattle.lua_tables.proofs.Listed.{none-left, number-on}
use Rattle.lua_tables.proofs.ordering.number_values.Goals as goal

pub numbers-preserved : goal.numbers-preserved
numbers-preserved c = (
  λ s. subst (AllOf s) (sym c.in_ok-push.ensures.ok) (all-with s c.numbers.values _ (c.numbers.invariant.0 s) tt),
  λ texts.
      let whole : to_z w64 (of_z w64 c.in-Some.number) ≡ c.in-Some.number = search rules in
      number-on texts c.numbers.values c.push.new.self c.in-Some.number c.numbers.rest.now c.in-Some.more.now c.args.numbers.now c.in-Some.ensures (rw whole at c.in_ok-push.ensures.ok) (c.numbers.invariant.1 texts),
)

pub returns-clause-values : goal.returns-clause-values
returns-clause-values c = λ texts. none-left (map Number) (values_seen texts c.numbers.values) (map Number c.args.numbers.now) c.numbers.rest.now c.in_default.ensures refl (c.numbers.invariant.1 texts)
