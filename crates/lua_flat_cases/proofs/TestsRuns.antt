-- Flat code of small modules: the runs compute.
use Rattle.std.proofs.Common.{refl}
use Rattle.lua_flat.specs.PageRunPerform.{perform}
use Rattle.lua_flat.specs.WkBaseTitles.{title_text, prefix_of, title_of, namespace_named, prefixed_namespaces}
use Rattle.std.specs.Fmt.{digits}
use Rattle.std.specs.Str.{is_utf8, chars}
use lib.Utf8.{encode}
use Rattle.lua_flat.specs.LuaNumberNumerals.{decimal_of, numeral_of, trimmed, digits_of_base, read_number_of, read_in_base_of}
use lib.Count.{count_leading_zeros}
use Rattle.lua_flat.specs.LuaPatternTexts.{point_code}
use Rattle.lua_flat_cases.specs.Tests.{TestsFlatAlike, ChoicesFlatAlike, ErrorValuesFlatAlike, NestedPcallFlatAlike, FibFlatAlike, AllTests}

tests_alike : TestsFlatAlike
unfolding perform digits title_text prefix_of title_of namespace_named prefixed_namespaces decimal_of numeral_of trimmed digits_of_base read_number_of read_in_base_of is_utf8 chars encode count_leading_zeros point_code
tests_alike = refl

choices_alike : ChoicesFlatAlike
unfolding perform digits title_text prefix_of title_of namespace_named prefixed_namespaces decimal_of numeral_of trimmed digits_of_base read_number_of read_in_base_of is_utf8 chars encode count_leading_zeros point_code
choices_alike = refl

error_values_alike : ErrorValuesFlatAlike
unfolding perform digits title_text prefix_of title_of namespace_named prefixed_namespaces decimal_of numeral_of trimmed digits_of_base read_number_of read_in_base_of is_utf8 chars encode count_leading_zeros point_code
error_values_alike = refl

nested_pcall_alike : NestedPcallFlatAlike
unfolding perform digits title_text prefix_of title_of namespace_named prefixed_namespaces decimal_of numeral_of trimmed digits_of_base read_number_of read_in_base_of is_utf8 chars encode count_leading_zeros point_code
nested_pcall_alike = refl

fib_alike : FibFlatAlike
unfolding perform digits title_text prefix_of title_of namespace_named prefixed_namespaces decimal_of numeral_of trimmed digits_of_base read_number_of read_in_base_of is_utf8 chars encode count_leading_zeros point_code
fib_alike = refl

pub all_of_them : AllTests
all_of_them = (tests_alike, choices_alike, error_values_alike, nested_pcall_alike, fib_alike)
