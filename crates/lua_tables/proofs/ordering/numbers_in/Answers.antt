use Rattle.std.proofs.Common.{refl}
use Rattle.lua_basic.specs.Seen.{values_seen}
use Rattle.lua_tables.specs.Kinds.{numbers_in}
use Rattle.lua_tables.proofs.Listed.{none-left, numbers-on}
use Rattle.lua_tables.proofs.ordering.numbers_in.Goals as goal

pub values-preserved : goal.values-preserved
values-preserved c = λ texts.
    numbers-on texts c.values.numbers c.add_number.new.numbers c.in-Some.value c.values.rest.now c.in-Some.more.now c.args.values.now c.in-Some.ensures (c.in_ok-add_number.ensures texts) (c.values.invariant texts)

pub returns : goal.returns
returns c = λ texts. none-left (λ vs. numbers_in (values_seen texts vs)) c.values.numbers (numbers_in (values_seen texts c.args.values.now)) c.values.rest.now c.in_default.ensures refl (c.values.invariant texts)
