-- EXAMPLES of charges, and of how runs end. They compute.
use Rattle.std.proofs.Common.{refl}
use Rattle.page_run.specs.Perform.{perform}
use Rattle.page_run.specs.Trace.{trace}
use Rattle.lua_syntax.specs.WkBaseTitles.{title_text, prefix_of, title_of, namespace_named, prefixed_namespaces}
use Rattle.std.specs.Fmt.{digits}
use Rattle.std.specs.Str.{is_utf8, chars}
use lib.Utf8.{encode}
use Rattle.lua_format.specs.LuaNumberNumerals.{decimal_of, numeral_of, trimmed, digits_of_base, read_number_of, read_in_base_of}
use Rattle.lua_meaning.specs.ExampleCharges.{Smallest, Start, DataStart, Arguments, Nodes, NamesAreNoted, Counter, HoldsItself, CatchesAll, Nests, Joins, NoMarkup, Cells, Handlers, OutOfRange, SecondLevel, NoFunction, NoTable, DataNoTable, DataError, Faulty, Unfinished, TooLarge, TableError, WrittenOut, AllCharges}

smallest : Smallest
unfolding perform digits title_text prefix_of decimal_of numeral_of trimmed digits_of_base read_number_of read_in_base_of
smallest = (refl, refl)

start : Start
unfolding perform digits title_text prefix_of decimal_of numeral_of trimmed digits_of_base read_number_of read_in_base_of title_of namespace_named prefixed_namespaces is_utf8 chars encode
start = (refl, refl, refl, refl, refl)

data_start : DataStart
unfolding perform digits title_text prefix_of decimal_of numeral_of trimmed digits_of_base read_number_of read_in_base_of
data_start = (refl, refl)

arguments : Arguments
unfolding perform digits title_text prefix_of decimal_of numeral_of trimmed digits_of_base read_number_of read_in_base_of
arguments = (refl, refl)

nodes : Nodes
unfolding perform digits title_text prefix_of decimal_of numeral_of trimmed digits_of_base read_number_of read_in_base_of
nodes = refl

names_are_noted : NamesAreNoted
unfolding perform digits title_text prefix_of decimal_of numeral_of trimmed digits_of_base read_number_of read_in_base_of trace
names_are_noted = refl

counter : Counter
unfolding perform digits title_text prefix_of decimal_of numeral_of trimmed digits_of_base read_number_of read_in_base_of
counter = refl

holds_itself : HoldsItself
unfolding perform digits title_text prefix_of decimal_of numeral_of trimmed digits_of_base read_number_of read_in_base_of
holds_itself = refl

catches_all : CatchesAll
unfolding perform digits title_text prefix_of decimal_of numeral_of trimmed digits_of_base read_number_of read_in_base_of
catches_all = refl

nests : Nests
unfolding perform digits title_text prefix_of decimal_of numeral_of trimmed digits_of_base read_number_of read_in_base_of
nests = refl

joins : Joins
unfolding perform digits title_text prefix_of decimal_of numeral_of trimmed digits_of_base read_number_of read_in_base_of
joins = refl

no_markup : NoMarkup
unfolding perform digits title_text prefix_of decimal_of numeral_of trimmed digits_of_base read_number_of read_in_base_of
no_markup = refl

cells : Cells
unfolding perform digits title_text prefix_of decimal_of numeral_of trimmed digits_of_base read_number_of read_in_base_of
cells = refl

handlers : Handlers
unfolding perform digits title_text prefix_of decimal_of numeral_of trimmed digits_of_base read_number_of read_in_base_of
handlers = refl

out_of_range : OutOfRange
unfolding perform digits title_text prefix_of decimal_of numeral_of trimmed digits_of_base read_number_of read_in_base_of
out_of_range = refl

second_level : SecondLevel
unfolding perform digits title_text prefix_of decimal_of numeral_of trimmed digits_of_base read_number_of read_in_base_of
second_level = refl

no_function : NoFunction
unfolding perform digits title_text prefix_of decimal_of numeral_of trimmed digits_of_base read_number_of read_in_base_of
no_function = refl

no_table : NoTable
unfolding perform digits title_text prefix_of decimal_of numeral_of trimmed digits_of_base read_number_of read_in_base_of
no_table = refl

data_no_table : DataNoTable
unfolding perform digits title_text prefix_of decimal_of numeral_of trimmed digits_of_base read_number_of read_in_base_of
data_no_table = refl

data_error : DataError
unfolding perform digits title_text prefix_of decimal_of numeral_of trimmed digits_of_base read_number_of read_in_base_of
data_error = refl

faulty : Faulty
unfolding perform digits title_text prefix_of decimal_of numeral_of trimmed digits_of_base read_number_of read_in_base_of
faulty = refl

unfinished : Unfinished
unfolding perform digits title_text prefix_of decimal_of numeral_of trimmed digits_of_base read_number_of read_in_base_of
unfinished = refl

too_large : TooLarge
unfolding perform digits title_text prefix_of decimal_of numeral_of trimmed digits_of_base read_number_of read_in_base_of
too_large = refl

table_error : TableError
unfolding perform digits title_text prefix_of decimal_of numeral_of trimmed digits_of_base read_number_of read_in_base_of
table_error = refl

written_out : WrittenOut
unfolding perform digits title_text prefix_of decimal_of numeral_of trimmed digits_of_base read_number_of read_in_base_of
written_out = refl

pub all_charges : AllCharges
all_charges = (smallest, start, data_start, arguments, nodes, names_are_noted, counter, holds_itself, catches_all, nests, joins, no_markup, cells, handlers, out_of_range, second_level, no_function, no_table, data_no_table, data_error, faulty, unfinished, too_large, table_error, written_out)
