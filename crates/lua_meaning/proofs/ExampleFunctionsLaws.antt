-- EXAMPLES of functions, errors and handlers. They compute.
use Rattle.std.proofs.Common.{refl}
use Rattle.page_run.specs.Perform.{perform}
use Rattle.lua_syntax.specs.WkBaseTitles.{title_text, prefix_of}
use Rattle.std.specs.Fmt.{digits}
use Rattle.lua_format.specs.LuaNumberNumerals.{decimal_of, numeral_of, trimmed, digits_of_base, read_number_of, read_in_base_of}
use Rattle.lua_meaning.specs.ExampleFunctions.{Counters, WhileCells, Protected, ValuesAsErrors, Places, Failing, BadArguments, ErrorHandlers, FailingHandlers, IndexChain, NewIndex, ArithmeticHandlers, FirstHandler, EqualHandlers, CallHandlers, ToText, NoText, MethodsOfStrings, ProtectedMetatables, GlobalHandlers, RawEquality, TailValues, AllFunctions}

counters : Counters
unfolding perform digits title_text prefix_of decimal_of numeral_of trimmed digits_of_base read_number_of read_in_base_of
counters = refl

while_cells : WhileCells
unfolding perform digits title_text prefix_of decimal_of numeral_of trimmed digits_of_base read_number_of read_in_base_of
while_cells = refl

protected : Protected
unfolding perform digits title_text prefix_of decimal_of numeral_of trimmed digits_of_base read_number_of read_in_base_of
protected = refl

values_as_errors : ValuesAsErrors
unfolding perform digits title_text prefix_of decimal_of numeral_of trimmed digits_of_base read_number_of read_in_base_of
values_as_errors = refl

places : Places
unfolding perform digits title_text prefix_of decimal_of numeral_of trimmed digits_of_base read_number_of read_in_base_of
places = refl

failing : Failing
unfolding perform digits title_text prefix_of decimal_of numeral_of trimmed digits_of_base read_number_of read_in_base_of
failing = refl

bad_arguments : BadArguments
unfolding perform digits title_text prefix_of decimal_of numeral_of trimmed digits_of_base read_number_of read_in_base_of
bad_arguments = refl

error_handlers : ErrorHandlers
unfolding perform digits title_text prefix_of decimal_of numeral_of trimmed digits_of_base read_number_of read_in_base_of
error_handlers = refl

failing_handlers : FailingHandlers
unfolding perform digits title_text prefix_of decimal_of numeral_of trimmed digits_of_base read_number_of read_in_base_of
failing_handlers = refl

index_chain : IndexChain
unfolding perform digits title_text prefix_of decimal_of numeral_of trimmed digits_of_base read_number_of read_in_base_of
index_chain = refl

new_index : NewIndex
unfolding perform digits title_text prefix_of decimal_of numeral_of trimmed digits_of_base read_number_of read_in_base_of
new_index = refl

arithmetic_handlers : ArithmeticHandlers
unfolding perform digits title_text prefix_of decimal_of numeral_of trimmed digits_of_base read_number_of read_in_base_of
arithmetic_handlers = refl

first_handler : FirstHandler
unfolding perform digits title_text prefix_of decimal_of numeral_of trimmed digits_of_base read_number_of read_in_base_of
first_handler = refl

equal_handlers : EqualHandlers
unfolding perform digits title_text prefix_of decimal_of numeral_of trimmed digits_of_base read_number_of read_in_base_of
equal_handlers = refl

call_handlers : CallHandlers
unfolding perform digits title_text prefix_of decimal_of numeral_of trimmed digits_of_base read_number_of read_in_base_of
call_handlers = refl

to_text : ToText
unfolding perform digits title_text prefix_of decimal_of numeral_of trimmed digits_of_base read_number_of read_in_base_of
to_text = refl

no_text : NoText
unfolding perform digits title_text prefix_of decimal_of numeral_of trimmed digits_of_base read_number_of read_in_base_of
no_text = refl

methods_of_strings : MethodsOfStrings
unfolding perform digits title_text prefix_of decimal_of numeral_of trimmed digits_of_base read_number_of read_in_base_of
methods_of_strings = refl

protected_metatables : ProtectedMetatables
unfolding perform digits title_text prefix_of decimal_of numeral_of trimmed digits_of_base read_number_of read_in_base_of
protected_metatables = refl

global_handlers : GlobalHandlers
unfolding perform digits title_text prefix_of decimal_of numeral_of trimmed digits_of_base read_number_of read_in_base_of
global_handlers = refl

raw_equality : RawEquality
unfolding perform digits title_text prefix_of decimal_of numeral_of trimmed digits_of_base read_number_of read_in_base_of
raw_equality = refl

tail_values : TailValues
unfolding perform digits title_text prefix_of decimal_of numeral_of trimmed digits_of_base read_number_of read_in_base_of
tail_values = refl

pub all_functions : AllFunctions
all_functions = (counters, while_cells, protected, values_as_errors, places, failing, bad_arguments, error_handlers, failing_handlers, index_chain, new_index, arithmetic_handlers, first_handler, equal_handlers, call_handlers, to_text, no_text, methods_of_strings, protected_metatables, global_handlers, raw_equality, tail_values)
