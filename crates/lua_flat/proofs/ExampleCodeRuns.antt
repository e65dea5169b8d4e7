-- Flat code of small modules: the runs compute.
use Rattle.std.proofs.Common.{refl}
use Rattle.lua_slots.specs.PageRunPerform.{perform}
use Rattle.lua_slots.specs.WkBaseTitles.{title_text, prefix_of, title_of, namespace_named, prefixed_namespaces}
use Rattle.std.specs.Fmt.{digits}
use Rattle.std.specs.Str.{is_utf8, chars}
use lib.Utf8.{encode}
use Rattle.lua_slots.specs.LuaNumberNumerals.{decimal_of, numeral_of, trimmed, digits_of_base, read_number_of, read_in_base_of}
use Rattle.lua_flat.specs.ExampleCode.{CellsFlatAlike, RepeatLoopFlatAlike, BranchesFlatAlike, ConstructorsFlatAlike, AndOrFlatAlike, AllExampleCode}

cells_alike : CellsFlatAlike
unfolding perform digits title_text prefix_of title_of namespace_named prefixed_namespaces decimal_of numeral_of trimmed digits_of_base read_number_of read_in_base_of is_utf8 chars encode
cells_alike = refl

repeat_loop_alike : RepeatLoopFlatAlike
unfolding perform digits title_text prefix_of title_of namespace_named prefixed_namespaces decimal_of numeral_of trimmed digits_of_base read_number_of read_in_base_of is_utf8 chars encode
repeat_loop_alike = refl

branches_alike : BranchesFlatAlike
unfolding perform digits title_text prefix_of title_of namespace_named prefixed_namespaces decimal_of numeral_of trimmed digits_of_base read_number_of read_in_base_of is_utf8 chars encode
branches_alike = refl

constructors_alike : ConstructorsFlatAlike
unfolding perform digits title_text prefix_of title_of namespace_named prefixed_namespaces decimal_of numeral_of trimmed digits_of_base read_number_of read_in_base_of is_utf8 chars encode
constructors_alike = refl

and_or_alike : AndOrFlatAlike
unfolding perform digits title_text prefix_of title_of namespace_named prefixed_namespaces decimal_of numeral_of trimmed digits_of_base read_number_of read_in_base_of is_utf8 chars encode
and_or_alike = refl

pub all_of_them : AllExampleCode
all_of_them = (cells_alike, repeat_loop_alike, branches_alike, constructors_alike, and_or_alike)
