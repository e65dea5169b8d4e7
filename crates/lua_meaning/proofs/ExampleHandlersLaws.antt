-- EXAMPLES of handlers, levels, and what is absent. They compute.
use Rattle.std.proofs.Common.{refl}
use Rattle.page_run.specs.Perform.{perform}
use Rattle.lua_syntax.specs.WkBaseTitles.{title_text, prefix_of}
use Rattle.std.specs.Fmt.{digits}
use Rattle.lua_format.specs.LuaNumberNumerals.{decimal_of, numeral_of, trimmed, digits_of_base, read_number_of, read_in_base_of}
use Rattle.lua_meaning.specs.ExampleHandlers.{AtMostHandler, NilIsNotLess, Greater, CallChain, FalseProtects, LevelsThroughHandlers, LevelsInTostring, OneValueOfHandlers, NumberAsText, MethodFirst, LibraryCallsNothing, AbsentIsNil, KeptTables, FalseGoesOn, AssertHasNoPlace, PairsHandlerArguments, AnyChain, FailingAnswer, LeftOut, AllHandlers}

at_most_handler : AtMostHandler
unfolding perform digits title_text prefix_of decimal_of numeral_of trimmed digits_of_base read_number_of read_in_base_of
at_most_handler = refl

nil_is_not_less : NilIsNotLess
unfolding perform digits title_text prefix_of decimal_of numeral_of trimmed digits_of_base read_number_of read_in_base_of
nil_is_not_less = refl

greater : Greater
unfolding perform digits title_text prefix_of decimal_of numeral_of trimmed digits_of_base read_number_of read_in_base_of
greater = refl

call_chain : CallChain
unfolding perform digits title_text prefix_of decimal_of numeral_of trimmed digits_of_base read_number_of read_in_base_of
call_chain = refl

false_protects : FalseProtects
unfolding perform digits title_text prefix_of decimal_of numeral_of trimmed digits_of_base read_number_of read_in_base_of
false_protects = refl

levels_through_handlers : LevelsThroughHandlers
unfolding perform digits title_text prefix_of decimal_of numeral_of trimmed digits_of_base read_number_of read_in_base_of
levels_through_handlers = refl

levels_in_tostring : LevelsInTostring
unfolding perform digits title_text prefix_of decimal_of numeral_of trimmed digits_of_base read_number_of read_in_base_of
levels_in_tostring = refl

one_value_of_handlers : OneValueOfHandlers
unfolding perform digits title_text prefix_of decimal_of numeral_of trimmed digits_of_base read_number_of read_in_base_of
one_value_of_handlers = refl

number_as_text : NumberAsText
unfolding perform digits title_text prefix_of decimal_of numeral_of trimmed digits_of_base read_number_of read_in_base_of
number_as_text = refl

method_first : MethodFirst
unfolding perform digits title_text prefix_of decimal_of numeral_of trimmed digits_of_base read_number_of read_in_base_of
method_first = refl

library_calls_nothing : LibraryCallsNothing
unfolding perform digits title_text prefix_of decimal_of numeral_of trimmed digits_of_base read_number_of read_in_base_of
library_calls_nothing = refl

absent_is_nil : AbsentIsNil
unfolding perform digits title_text prefix_of decimal_of numeral_of trimmed digits_of_base read_number_of read_in_base_of
absent_is_nil = refl

kept_tables : KeptTables
unfolding perform digits title_text prefix_of decimal_of numeral_of trimmed digits_of_base read_number_of read_in_base_of
kept_tables = refl

false_goes_on : FalseGoesOn
unfolding perform digits title_text prefix_of decimal_of numeral_of trimmed digits_of_base read_number_of read_in_base_of
false_goes_on = refl

assert_has_no_place : AssertHasNoPlace
unfolding perform digits title_text prefix_of decimal_of numeral_of trimmed digits_of_base read_number_of read_in_base_of
assert_has_no_place = refl

pairs_handler_arguments : PairsHandlerArguments
unfolding perform digits title_text prefix_of decimal_of numeral_of trimmed digits_of_base read_number_of read_in_base_of
pairs_handler_arguments = refl

any_chain : AnyChain
unfolding perform digits title_text prefix_of decimal_of numeral_of trimmed digits_of_base read_number_of read_in_base_of
any_chain = refl

failing_answer : FailingAnswer
unfolding perform digits title_text prefix_of decimal_of numeral_of trimmed digits_of_base read_number_of read_in_base_of
failing_answer = refl

left_out : LeftOut
unfolding perform digits title_text prefix_of decimal_of numeral_of trimmed digits_of_base read_number_of read_in_base_of
left_out = refl

pub all_handlers : AllHandlers
all_handlers = (at_most_handler, nil_is_not_less, greater, call_chain, false_protects, levels_through_handlers, levels_in_tostring, one_value_of_handlers, number_as_text, method_first, library_calls_nothing, absent_is_nil, kept_tables, false_goes_on, assert_has_no_place, pairs_handler_arguments, any_chain, failing_answer, left_out)
