-- EXAMPLES of values, lists and operators. They compute.
use Rattle.std.proofs.Common.{refl}
use Rattle.page_run.specs.Perform.{perform}
use Rattle.lua_syntax.specs.WkBaseTitles.{title_text, prefix_of}
use Rattle.std.specs.Fmt.{digits}
use Rattle.lua_format.specs.LuaNumberNumerals.{decimal_of, numeral_of, trimmed, digits_of_base, read_number_of, read_in_base_of}
use Rattle.lua_meaning.specs.ExampleValues.{Constants, Adjusted, Parentheses, ManyArguments, Varargs, NoValues, AndOr, Precedence, Remainders, TextsInArithmetic, Order, Equality, Lengths, LeastBorder, Types, ToNumbers, Selecting, Unpacking, Assertions, AllValues}

constants : Constants
unfolding perform digits title_text prefix_of decimal_of numeral_of trimmed digits_of_base read_number_of read_in_base_of
constants = refl

adjusted : Adjusted
unfolding perform digits title_text prefix_of decimal_of numeral_of trimmed digits_of_base read_number_of read_in_base_of
adjusted = refl

parentheses : Parentheses
unfolding perform digits title_text prefix_of decimal_of numeral_of trimmed digits_of_base read_number_of read_in_base_of
parentheses = refl

many_arguments : ManyArguments
unfolding perform digits title_text prefix_of decimal_of numeral_of trimmed digits_of_base read_number_of read_in_base_of
many_arguments = refl

varargs : Varargs
unfolding perform digits title_text prefix_of decimal_of numeral_of trimmed digits_of_base read_number_of read_in_base_of
varargs = refl

no_values : NoValues
unfolding perform digits title_text prefix_of decimal_of numeral_of trimmed digits_of_base read_number_of read_in_base_of
no_values = refl

and_or : AndOr
unfolding perform digits title_text prefix_of decimal_of numeral_of trimmed digits_of_base read_number_of read_in_base_of
and_or = refl

precedence : Precedence
unfolding perform digits title_text prefix_of decimal_of numeral_of trimmed digits_of_base read_number_of read_in_base_of
precedence = refl

remainders : Remainders
unfolding perform digits title_text prefix_of decimal_of numeral_of trimmed digits_of_base read_number_of read_in_base_of
remainders = refl

texts_in_arithmetic : TextsInArithmetic
unfolding perform digits title_text prefix_of decimal_of numeral_of trimmed digits_of_base read_number_of read_in_base_of
texts_in_arithmetic = refl

order : Order
unfolding perform digits title_text prefix_of decimal_of numeral_of trimmed digits_of_base read_number_of read_in_base_of
order = refl

equality : Equality
unfolding perform digits title_text prefix_of decimal_of numeral_of trimmed digits_of_base read_number_of read_in_base_of
equality = refl

lengths : Lengths
unfolding perform digits title_text prefix_of decimal_of numeral_of trimmed digits_of_base read_number_of read_in_base_of
lengths = refl

least_border : LeastBorder
unfolding perform digits title_text prefix_of decimal_of numeral_of trimmed digits_of_base read_number_of read_in_base_of
least_border = refl

types : Types
unfolding perform digits title_text prefix_of decimal_of numeral_of trimmed digits_of_base read_number_of read_in_base_of
types = refl

to_numbers : ToNumbers
unfolding perform digits title_text prefix_of decimal_of numeral_of trimmed digits_of_base read_number_of read_in_base_of
to_numbers = refl

selecting : Selecting
unfolding perform digits title_text prefix_of decimal_of numeral_of trimmed digits_of_base read_number_of read_in_base_of
selecting = refl

unpacking : Unpacking
unfolding perform digits title_text prefix_of decimal_of numeral_of trimmed digits_of_base read_number_of read_in_base_of
unpacking = refl

assertions : Assertions
unfolding perform digits title_text prefix_of decimal_of numeral_of trimmed digits_of_base read_number_of read_in_base_of
assertions = refl

pub all_values : AllValues
all_values = (constants, adjusted, parentheses, many_arguments, varargs, no_values, and_or, precedence, remainders, texts_in_arithmetic, order, equality, lengths, least_border, types, to_numbers, selecting, unpacking, assertions)
