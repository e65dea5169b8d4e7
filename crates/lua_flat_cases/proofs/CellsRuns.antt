-- Flat code of small modules: the runs compute.
use Rattle.std.proofs.Common.{refl}
use Rattle.lua_flat.specs.PageRunPerform.{perform}
use Rattle.lua_flat.specs.WkBaseTitles.{title_text, prefix_of, title_of, namespace_named, prefixed_namespaces}
use Rattle.std.specs.Fmt.{digits}
use Rattle.std.specs.Str.{is_utf8, chars}
use lib.Utf8.{encode}
use Rattle.lua_flat.specs.LuaNumberNumerals.{decimal_of, numeral_of, trimmed, digits_of_base, read_number_of, read_in_base_of}
use lib.Count.{count_leading_zeros}
use Rattle.lua_flat.specs.LuaPatternTexts.{point_code}
use Rattle.lua_flat_cases.specs.Cells.{CountersFlatAlike, SharedCellsFlatAlike, RepeatSeesFlatAlike, ConstructorFlatAlike, GlobalsFlatAlike, AllCells}

counters_alike : CountersFlatAlike
unfolding perform digits title_text prefix_of title_of namespace_named prefixed_namespaces decimal_of numeral_of trimmed digits_of_base read_number_of read_in_base_of is_utf8 chars encode count_leading_zeros point_code
counters_alike = refl

shared_cells_alike : SharedCellsFlatAlike
unfolding perform digits title_text prefix_of title_of namespace_named prefixed_namespaces decimal_of numeral_of trimmed digits_of_base read_number_of read_in_base_of is_utf8 chars encode count_leading_zeros point_code
shared_cells_alike = refl

repeat_sees_alike : RepeatSeesFlatAlike
unfolding perform digits title_text prefix_of title_of namespace_named prefixed_namespaces decimal_of numeral_of trimmed digits_of_base read_number_of read_in_base_of is_utf8 chars encode count_leading_zeros point_code
repeat_sees_alike = refl

constructor_alike : ConstructorFlatAlike
unfolding perform digits title_text prefix_of title_of namespace_named prefixed_namespaces decimal_of numeral_of trimmed digits_of_base read_number_of read_in_base_of is_utf8 chars encode count_leading_zeros point_code
constructor_alike = refl

globals_alike : GlobalsFlatAlike
unfolding perform digits title_text prefix_of title_of namespace_named prefixed_namespaces decimal_of numeral_of trimmed digits_of_base read_number_of read_in_base_of is_utf8 chars encode count_leading_zeros point_code
globals_alike = refl

pub all_of_them : AllCells
all_of_them = (counters_alike, shared_cells_alike, repeat_sees_alike, constructor_alike, globals_alike)
