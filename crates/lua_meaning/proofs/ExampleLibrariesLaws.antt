-- EXAMPLES of the libraries `string`, `table`, `math`, `mw.ustring` and `mw.text`. They compute.
use Rattle.std.proofs.Common.{refl}
use Rattle.page_run.specs.Perform.{perform}
use Rattle.lua_syntax.specs.WkBaseTitles.{title_text, prefix_of}
use Rattle.std.specs.Fmt.{digits}
use Rattle.std.specs.Str.{is_utf8, chars}
use Rattle.std.specs.Char.{encode_utf8}
use lib.Count.{count_leading_zeros}
use Rattle.lua_format.specs.LuaNumberNumerals.{decimal_of, numeral_of, trimmed, digits_of_base, read_number_of, read_in_base_of}
use Rattle.mw_text.specs.LuaPatternTexts.{point_code}
use Rattle.lua_format.specs.Directives.{directive_of}
use Rattle.lua_format.specs.Layouts.{filled}
use Rattle.lua_format.specs.Format.{formatted}
use Rattle.mw_text.specs.References.{numbered}
use Rattle.mw_text.specs.Split.{parts_of}
use Rattle.lua_meaning.specs.ExampleLibraries.{RepCosts, FormatCosts, ConcatCosts, MaxCosts, SplitCosts, GmatchCosts, GsplitCosts, MethodsOfTexts, SearchesOfTexts, AllOfASearch, Iterators, IteratorsOfCodePoints, Formats, TablesAreChanged, WholeNumbers, CodePoints, TextsOfPages, WrongArguments, NamesInOrder, AllLibraries}

rep_costs : RepCosts
unfolding perform digits title_text prefix_of decimal_of numeral_of trimmed digits_of_base read_number_of read_in_base_of formatted directive_of filled count_leading_zeros is_utf8 chars encode_utf8 point_code numbered parts_of
rep_costs = (refl, refl)

format_costs : FormatCosts
unfolding perform digits title_text prefix_of decimal_of numeral_of trimmed digits_of_base read_number_of read_in_base_of formatted directive_of filled count_leading_zeros is_utf8 chars encode_utf8 point_code numbered parts_of
format_costs = (refl, refl)

concat_costs : ConcatCosts
unfolding perform digits title_text prefix_of decimal_of numeral_of trimmed digits_of_base read_number_of read_in_base_of formatted directive_of filled count_leading_zeros is_utf8 chars encode_utf8 point_code numbered parts_of
concat_costs = (refl, refl)

max_costs : MaxCosts
unfolding perform digits title_text prefix_of decimal_of numeral_of trimmed digits_of_base read_number_of read_in_base_of formatted directive_of filled count_leading_zeros is_utf8 chars encode_utf8 point_code numbered parts_of
max_costs = (refl, refl)

split_costs : SplitCosts
unfolding perform digits title_text prefix_of decimal_of numeral_of trimmed digits_of_base read_number_of read_in_base_of formatted directive_of filled count_leading_zeros is_utf8 chars encode_utf8 point_code numbered parts_of
split_costs = (refl, refl)

gmatch_costs : GmatchCosts
unfolding perform digits title_text prefix_of decimal_of numeral_of trimmed digits_of_base read_number_of read_in_base_of formatted directive_of filled count_leading_zeros is_utf8 chars encode_utf8 point_code numbered parts_of
gmatch_costs = (refl, refl)

gsplit_costs : GsplitCosts
unfolding perform digits title_text prefix_of decimal_of numeral_of trimmed digits_of_base read_number_of read_in_base_of formatted directive_of filled count_leading_zeros is_utf8 chars encode_utf8 point_code numbered parts_of
gsplit_costs = (refl, refl)

methods_of_texts : MethodsOfTexts
unfolding perform digits title_text prefix_of decimal_of numeral_of trimmed digits_of_base read_number_of read_in_base_of formatted directive_of filled count_leading_zeros is_utf8 chars encode_utf8 point_code numbered parts_of
methods_of_texts = refl

searches_of_texts : SearchesOfTexts
unfolding perform digits title_text prefix_of decimal_of numeral_of trimmed digits_of_base read_number_of read_in_base_of formatted directive_of filled count_leading_zeros is_utf8 chars encode_utf8 point_code numbered parts_of
searches_of_texts = refl

all_of_a_search : AllOfASearch
unfolding perform digits title_text prefix_of decimal_of numeral_of trimmed digits_of_base read_number_of read_in_base_of formatted directive_of filled count_leading_zeros is_utf8 chars encode_utf8 point_code numbered parts_of
all_of_a_search = refl

iterators : Iterators
unfolding perform digits title_text prefix_of decimal_of numeral_of trimmed digits_of_base read_number_of read_in_base_of formatted directive_of filled count_leading_zeros is_utf8 chars encode_utf8 point_code numbered parts_of
iterators = refl

iterators_of_code_points : IteratorsOfCodePoints
unfolding perform digits title_text prefix_of decimal_of numeral_of trimmed digits_of_base read_number_of read_in_base_of formatted directive_of filled count_leading_zeros is_utf8 chars encode_utf8 point_code numbered parts_of
iterators_of_code_points = refl

formats : Formats
unfolding perform digits title_text prefix_of decimal_of numeral_of trimmed digits_of_base read_number_of read_in_base_of formatted directive_of filled count_leading_zeros is_utf8 chars encode_utf8 point_code numbered parts_of
formats = refl

tables_are_changed : TablesAreChanged
unfolding perform digits title_text prefix_of decimal_of numeral_of trimmed digits_of_base read_number_of read_in_base_of formatted directive_of filled count_leading_zeros is_utf8 chars encode_utf8 point_code numbered parts_of
tables_are_changed = refl

whole_numbers : WholeNumbers
unfolding perform digits title_text prefix_of decimal_of numeral_of trimmed digits_of_base read_number_of read_in_base_of formatted directive_of filled count_leading_zeros is_utf8 chars encode_utf8 point_code numbered parts_of
whole_numbers = refl

code_points : CodePoints
unfolding perform digits title_text prefix_of decimal_of numeral_of trimmed digits_of_base read_number_of read_in_base_of formatted directive_of filled count_leading_zeros is_utf8 chars encode_utf8 point_code numbered parts_of
code_points = refl

texts_of_pages : TextsOfPages
unfolding perform digits title_text prefix_of decimal_of numeral_of trimmed digits_of_base read_number_of read_in_base_of formatted directive_of filled count_leading_zeros is_utf8 chars encode_utf8 point_code numbered parts_of
texts_of_pages = refl

wrong_arguments : WrongArguments
unfolding perform digits title_text prefix_of decimal_of numeral_of trimmed digits_of_base read_number_of read_in_base_of formatted directive_of filled count_leading_zeros is_utf8 chars encode_utf8 point_code numbered parts_of
wrong_arguments = refl

names_in_order : NamesInOrder
unfolding perform digits title_text prefix_of decimal_of numeral_of trimmed digits_of_base read_number_of read_in_base_of formatted directive_of filled count_leading_zeros is_utf8 chars encode_utf8 point_code numbered parts_of
names_in_order = refl

pub all_libraries : AllLibraries
all_libraries = (rep_costs, format_costs, concat_costs, max_costs, split_costs, gmatch_costs, gsplit_costs, methods_of_texts, searches_of_texts, all_of_a_search, iterators, iterators_of_code_points, formats, tables_are_changed, whole_numbers, code_points, texts_of_pages, wrong_arguments, names_in_order)
