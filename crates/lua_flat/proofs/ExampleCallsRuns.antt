-- Flat code of modules that call: the runs compute.
use Rattle.std.proofs.Common.{refl}
use Rattle.lua_slots.specs.PageRunPerform.{perform}
use Rattle.lua_slots.specs.WkBaseTitles.{title_text, prefix_of, title_of, namespace_named, prefixed_namespaces}
use Rattle.std.specs.Fmt.{digits}
use Rattle.std.specs.Str.{is_utf8, chars}
use lib.Utf8.{encode}
use Rattle.lua_slots.specs.LuaNumberNumerals.{decimal_of, numeral_of, trimmed, digits_of_base, read_number_of, read_in_base_of}
use Rattle.lua_flat.specs.ExampleCalls.{ProtectedFlatAlike, ArithmeticHandlersFlatAlike, ErrorHandlersFlatAlike, NewIndexFlatAlike, CallHandlersFlatAlike, AllExampleCalls}

protected_alike : ProtectedFlatAlike
unfolding perform digits title_text prefix_of title_of namespace_named prefixed_namespaces decimal_of numeral_of trimmed digits_of_base read_number_of read_in_base_of is_utf8 chars encode
protected_alike = refl

arithmetic_handlers_alike : ArithmeticHandlersFlatAlike
unfolding perform digits title_text prefix_of title_of namespace_named prefixed_namespaces decimal_of numeral_of trimmed digits_of_base read_number_of read_in_base_of is_utf8 chars encode
arithmetic_handlers_alike = refl

error_handlers_alike : ErrorHandlersFlatAlike
unfolding perform digits title_text prefix_of title_of namespace_named prefixed_namespaces decimal_of numeral_of trimmed digits_of_base read_number_of read_in_base_of is_utf8 chars encode
error_handlers_alike = refl

new_index_alike : NewIndexFlatAlike
unfolding perform digits title_text prefix_of title_of namespace_named prefixed_namespaces decimal_of numeral_of trimmed digits_of_base read_number_of read_in_base_of is_utf8 chars encode
new_index_alike = refl

call_handlers_alike : CallHandlersFlatAlike
unfolding perform digits title_text prefix_of title_of namespace_named prefixed_namespaces decimal_of numeral_of trimmed digits_of_base read_number_of read_in_base_of is_utf8 chars encode
call_handlers_alike = refl

pub all_of_them : AllExampleCalls
all_of_them = (protected_alike, arithmetic_handlers_alike, error_handlers_alike, new_index_alike, call_handlers_alike)
