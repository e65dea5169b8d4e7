-- Flat code of small modules: the runs compute.
use Rattle.std.proofs.Common.{refl}
use Rattle.lua_flat.specs.PageRunPerform.{perform}
use Rattle.lua_flat.specs.WkBaseTitles.{title_text, prefix_of, title_of, namespace_named, prefixed_namespaces}
use Rattle.std.specs.Fmt.{digits}
use Rattle.std.specs.Str.{is_utf8, chars}
use lib.Utf8.{encode}
use Rattle.lua_flat.specs.LuaNumberNumerals.{decimal_of, numeral_of, trimmed, digits_of_base, read_number_of, read_in_base_of}
use lib.Count.{count_leading_zeros}
use Rattle.lua_flat.specs.LuaPatternTexts.{point_code}
use Rattle.lua_flat_cases.specs.Lists.{DotsFlatAlike, AdjustedFlatAlike, SwapFlatAlike, MethodsFlatAlike, IndexFunctionFlatAlike, ComparisonsFlatAlike, AllLists}

dots_alike : DotsFlatAlike
unfolding perform digits title_text prefix_of title_of namespace_named prefixed_namespaces decimal_of numeral_of trimmed digits_of_base read_number_of read_in_base_of is_utf8 chars encode count_leading_zeros point_code
dots_alike = refl

adjusted_alike : AdjustedFlatAlike
unfolding perform digits title_text prefix_of title_of namespace_named prefixed_namespaces decimal_of numeral_of trimmed digits_of_base read_number_of read_in_base_of is_utf8 chars encode count_leading_zeros point_code
adjusted_alike = refl

swap_alike : SwapFlatAlike
unfolding perform digits title_text prefix_of title_of namespace_named prefixed_namespaces decimal_of numeral_of trimmed digits_of_base read_number_of read_in_base_of is_utf8 chars encode count_leading_zeros point_code
swap_alike = refl

methods_alike : MethodsFlatAlike
unfolding perform digits title_text prefix_of title_of namespace_named prefixed_namespaces decimal_of numeral_of trimmed digits_of_base read_number_of read_in_base_of is_utf8 chars encode count_leading_zeros point_code
methods_alike = refl

index_function_alike : IndexFunctionFlatAlike
unfolding perform digits title_text prefix_of title_of namespace_named prefixed_namespaces decimal_of numeral_of trimmed digits_of_base read_number_of read_in_base_of is_utf8 chars encode count_leading_zeros point_code
index_function_alike = refl

comparisons_alike : ComparisonsFlatAlike
unfolding perform digits title_text prefix_of title_of namespace_named prefixed_namespaces decimal_of numeral_of trimmed digits_of_base read_number_of read_in_base_of is_utf8 chars encode count_leading_zeros point_code
comparisons_alike = refl

pub all_of_them : AllLists
all_of_them = (dots_alike, adjusted_alike, swap_alike, methods_alike, index_function_alike, comparisons_alike)
