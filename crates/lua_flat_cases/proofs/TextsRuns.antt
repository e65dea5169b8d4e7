-- Flat code of small modules: the runs compute.
use Rattle.std.proofs.Common.{refl}
use Rattle.lua_flat.specs.PageRunPerform.{perform}
use Rattle.lua_flat.specs.WkBaseTitles.{title_text, prefix_of, title_of, namespace_named, prefixed_namespaces}
use Rattle.std.specs.Fmt.{digits}
use Rattle.std.specs.Str.{is_utf8, chars}
use lib.Utf8.{encode}
use Rattle.lua_flat.specs.LuaNumberNumerals.{decimal_of, numeral_of, trimmed, digits_of_base, read_number_of, read_in_base_of}
use lib.Count.{count_leading_zeros}
use Rattle.lua_flat.specs.LuaPatternTexts.{point_code}
use Rattle.lua_flat_cases.specs.Texts.{StringsFlatAlike, ReplacedFlatAlike, JoinsFlatAlike, SortedFlatAlike, EarlyReturnFlatAlike, ElseifChainFlatAlike, AllTexts}

strings_alike : StringsFlatAlike
unfolding perform digits title_text prefix_of title_of namespace_named prefixed_namespaces decimal_of numeral_of trimmed digits_of_base read_number_of read_in_base_of is_utf8 chars encode count_leading_zeros point_code
strings_alike = refl

replaced_alike : ReplacedFlatAlike
unfolding perform digits title_text prefix_of title_of namespace_named prefixed_namespaces decimal_of numeral_of trimmed digits_of_base read_number_of read_in_base_of is_utf8 chars encode count_leading_zeros point_code
replaced_alike = refl

joins_alike : JoinsFlatAlike
unfolding perform digits title_text prefix_of title_of namespace_named prefixed_namespaces decimal_of numeral_of trimmed digits_of_base read_number_of read_in_base_of is_utf8 chars encode count_leading_zeros point_code
joins_alike = refl

sorted_alike : SortedFlatAlike
unfolding perform digits title_text prefix_of title_of namespace_named prefixed_namespaces decimal_of numeral_of trimmed digits_of_base read_number_of read_in_base_of is_utf8 chars encode count_leading_zeros point_code
sorted_alike = refl

early_return_alike : EarlyReturnFlatAlike
unfolding perform digits title_text prefix_of title_of namespace_named prefixed_namespaces decimal_of numeral_of trimmed digits_of_base read_number_of read_in_base_of is_utf8 chars encode count_leading_zeros point_code
early_return_alike = refl

elseif_chain_alike : ElseifChainFlatAlike
unfolding perform digits title_text prefix_of title_of namespace_named prefixed_namespaces decimal_of numeral_of trimmed digits_of_base read_number_of read_in_base_of is_utf8 chars encode count_leading_zeros point_code
elseif_chain_alike = refl

pub all_of_them : AllTexts
all_of_them = (strings_alike, replaced_alike, joins_alike, sorted_alike, early_return_alike, elseif_chain_alike)
