-- Flat code of errors with levels, and of blocks: the runs compute.
use Rattle.std.proofs.Common.{refl}
use Rattle.lua_slots.specs.PageRunPerform.{perform}
use Rattle.lua_slots.specs.WkBaseTitles.{title_text, prefix_of, title_of, namespace_named, prefixed_namespaces}
use Rattle.std.specs.Fmt.{digits}
use Rattle.std.specs.Str.{is_utf8, chars}
use lib.Utf8.{encode}
use Rattle.lua_slots.specs.LuaNumberNumerals.{decimal_of, numeral_of, trimmed, digits_of_base, read_number_of, read_in_base_of}
use Rattle.lua_flat.specs.ExampleLevels.{ErrorLevelsFlatAlike, BlocksFlatAlike, AllExampleLevels}

error_levels_alike : ErrorLevelsFlatAlike
unfolding perform digits title_text prefix_of title_of namespace_named prefixed_namespaces decimal_of numeral_of trimmed digits_of_base read_number_of read_in_base_of is_utf8 chars encode
error_levels_alike = refl

blocks_alike : BlocksFlatAlike
unfolding perform digits title_text prefix_of title_of namespace_named prefixed_namespaces decimal_of numeral_of trimmed digits_of_base read_number_of read_in_base_of is_utf8 chars encode
blocks_alike = refl

pub all_of_them : AllExampleLevels
all_of_them = (error_levels_alike, blocks_alike)
