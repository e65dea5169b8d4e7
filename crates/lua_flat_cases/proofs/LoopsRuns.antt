-- Flat code of small modules: the runs compute.
use Rattle.std.proofs.Common.{refl}
use Rattle.lua_flat.specs.PageRunPerform.{perform}
use Rattle.lua_flat.specs.WkBaseTitles.{title_text, prefix_of, title_of, namespace_named, prefixed_namespaces}
use Rattle.std.specs.Fmt.{digits}
use Rattle.std.specs.Str.{is_utf8, chars}
use lib.Utf8.{encode}
use Rattle.lua_flat.specs.LuaNumberNumerals.{decimal_of, numeral_of, trimmed, digits_of_base, read_number_of, read_in_base_of}
use lib.Count.{count_leading_zeros}
use Rattle.lua_flat.specs.LuaPatternTexts.{point_code}
use Rattle.lua_flat_cases.specs.Loops.{WhileBreakFlatAlike, NestedBreaksFlatAlike, CountDownFlatAlike, NoNumbersFlatAlike, PairsLoopFlatAlike, OwnIteratorFlatAlike, AllLoops}

while_break_alike : WhileBreakFlatAlike
unfolding perform digits title_text prefix_of title_of namespace_named prefixed_namespaces decimal_of numeral_of trimmed digits_of_base read_number_of read_in_base_of is_utf8 chars encode count_leading_zeros point_code
while_break_alike = refl

nested_breaks_alike : NestedBreaksFlatAlike
unfolding perform digits title_text prefix_of title_of namespace_named prefixed_namespaces decimal_of numeral_of trimmed digits_of_base read_number_of read_in_base_of is_utf8 chars encode count_leading_zeros point_code
nested_breaks_alike = refl

count_down_alike : CountDownFlatAlike
unfolding perform digits title_text prefix_of title_of namespace_named prefixed_namespaces decimal_of numeral_of trimmed digits_of_base read_number_of read_in_base_of is_utf8 chars encode count_leading_zeros point_code
count_down_alike = refl

no_numbers_alike : NoNumbersFlatAlike
unfolding perform digits title_text prefix_of title_of namespace_named prefixed_namespaces decimal_of numeral_of trimmed digits_of_base read_number_of read_in_base_of is_utf8 chars encode count_leading_zeros point_code
no_numbers_alike = refl

pairs_loop_alike : PairsLoopFlatAlike
unfolding perform digits title_text prefix_of title_of namespace_named prefixed_namespaces decimal_of numeral_of trimmed digits_of_base read_number_of read_in_base_of is_utf8 chars encode count_leading_zeros point_code
pairs_loop_alike = refl

own_iterator_alike : OwnIteratorFlatAlike
unfolding perform digits title_text prefix_of title_of namespace_named prefixed_namespaces decimal_of numeral_of trimmed digits_of_base read_number_of read_in_base_of is_utf8 chars encode count_leading_zeros point_code
own_iterator_alike = refl

pub all_of_them : AllLoops
all_of_them = (while_break_alike, nested_breaks_alike, count_down_alike, no_numbers_alike, pairs_loop_alike, own_iterator_alike)
