use Rattle.std.proofs.Common.{◌∙◌, ap, map}
use Rattle.std.specs.Ordering.{int_cmp}
use Rattle.lua_basic.specs.LuaHeapValue.{Number}
use Rattle.lua_basic.specs.LuaMeaningTableLibrary.{in_order}
use Rattle.lua_tables.proofs.Orders.{numbers_sorted}
use Rattle.lua_tables.proofs.ordering.sorted_numbers.Goals as goal

pub returns-clause-values : goal.returns-clause-values
returns-clause-values c = λ texts.
    c.in_ok-sorted.ensures.values texts
    ∙ ap (map Number) (c.as_slice.ensures.value ∙ numbers_sorted _ _ c.sort_unstable.ensures.permutation c.sort_unstable.ensures.sorted ∙ ap (in_order int_cmp) (c.into_vec-numbers.ensures ∙ c.in_ok-numbers_in.ensures texts))
