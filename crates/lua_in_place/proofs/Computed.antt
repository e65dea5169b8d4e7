-- The examples compute.
use Rattle.std.proofs.Common.{refl}
use Rattle.lua_in_place.specs.Examples.{AllExamples}

pub all_examples : AllExamples
all_examples = record {
  sum = refl;
  no_quotient = refl;
  no_half = refl;
  less = refl;
  less_the_other_way = refl;
  at_most = refl;
  greater = refl;
  not_nil = refl;
  equal = refl;
  unequal = refl;
  bytes = refl;
  paren = refl;
  and_first = refl;
  and_second = refl;
  or_first = refl;
  or_dots = refl;
  joined = refl;
  entry_there = refl;
  entry_absent = refl;
  handled_there = refl;
  handled_absent = refl;
  global_there = refl;
  entry_of_number = refl;
  table_equal = refl;
  table_unequal = refl;
  list = refl;
  open_list = refl;
}
