-- EXAMPLES of `gsub` in modules. They compute.
use Rattle.std.proofs.Common.{refl}
use Rattle.page_run.specs.Perform.{perform}
use Rattle.lua_syntax.specs.WkBaseTitles.{title_text, prefix_of}
use Rattle.std.specs.Fmt.{digits}
use Rattle.std.specs.Str.{is_utf8, chars}
use Rattle.std.specs.Char.{encode_utf8}
use lib.Count.{count_leading_zeros}
use Rattle.lua_format.specs.LuaNumberNumerals.{decimal_of, numeral_of, trimmed, digits_of_base, read_number_of, read_in_base_of}
use Rattle.mw_text.specs.LuaPatternTexts.{point_code}
use Rattle.lua_format.specs.Directives.{directive_of}
use Rattle.lua_format.specs.Layouts.{filled}
use Rattle.lua_format.specs.Format.{formatted}
use Rattle.mw_text.specs.References.{numbered}
use Rattle.mw_text.specs.Split.{parts_of}
use Rattle.lua_meaning.specs.ExampleReplacing.{GsubByTextCosts, GsubByFunctionCosts, GsubByTableCosts, GsubByHandlerCosts, GsubOfNothingCosts, GsubIsPaidByPieces, TextsWithCaptures, FunctionsWithCaptures, TablesWithCaptures, TablesWithHandlers, AnchorsAndLimits, EmptyMatches, GsubInGsub, ErrorsOfFunctions, InvalidReplacements, WrongArgumentsOfGsub, ReplacedCodePoints, AllReplacing}

gsub_by_text_costs : GsubByTextCosts
unfolding perform digits title_text prefix_of decimal_of numeral_of trimmed digits_of_base read_number_of read_in_base_of formatted directive_of filled count_leading_zeros is_utf8 chars encode_utf8 point_code numbered parts_of
gsub_by_text_costs = (refl, refl)

gsub_by_function_costs : GsubByFunctionCosts
unfolding perform digits title_text prefix_of decimal_of numeral_of trimmed digits_of_base read_number_of read_in_base_of formatted directive_of filled count_leading_zeros is_utf8 chars encode_utf8 point_code numbered parts_of
gsub_by_function_costs = (refl, refl)

gsub_by_table_costs : GsubByTableCosts
unfolding perform digits title_text prefix_of decimal_of numeral_of trimmed digits_of_base read_number_of read_in_base_of formatted directive_of filled count_leading_zeros is_utf8 chars encode_utf8 point_code numbered parts_of
gsub_by_table_costs = (refl, refl)

gsub_by_handler_costs : GsubByHandlerCosts
unfolding perform digits title_text prefix_of decimal_of numeral_of trimmed digits_of_base read_number_of read_in_base_of formatted directive_of filled count_leading_zeros is_utf8 chars encode_utf8 point_code numbered parts_of
gsub_by_handler_costs = (refl, refl)

gsub_of_nothing_costs : GsubOfNothingCosts
unfolding perform digits title_text prefix_of decimal_of numeral_of trimmed digits_of_base read_number_of read_in_base_of formatted directive_of filled count_leading_zeros is_utf8 chars encode_utf8 point_code numbered parts_of
gsub_of_nothing_costs = (refl, refl)

gsub_is_paid_by_pieces : GsubIsPaidByPieces
unfolding perform digits title_text prefix_of decimal_of numeral_of trimmed digits_of_base read_number_of read_in_base_of formatted directive_of filled count_leading_zeros is_utf8 chars encode_utf8 point_code numbered parts_of
gsub_is_paid_by_pieces = (refl, refl)

texts_with_captures : TextsWithCaptures
unfolding perform digits title_text prefix_of decimal_of numeral_of trimmed digits_of_base read_number_of read_in_base_of formatted directive_of filled count_leading_zeros is_utf8 chars encode_utf8 point_code numbered parts_of
texts_with_captures = refl

functions_with_captures : FunctionsWithCaptures
unfolding perform digits title_text prefix_of decimal_of numeral_of trimmed digits_of_base read_number_of read_in_base_of formatted directive_of filled count_leading_zeros is_utf8 chars encode_utf8 point_code numbered parts_of
functions_with_captures = refl

tables_with_captures : TablesWithCaptures
unfolding perform digits title_text prefix_of decimal_of numeral_of trimmed digits_of_base read_number_of read_in_base_of formatted directive_of filled count_leading_zeros is_utf8 chars encode_utf8 point_code numbered parts_of
tables_with_captures = refl

tables_with_handlers : TablesWithHandlers
unfolding perform digits title_text prefix_of decimal_of numeral_of trimmed digits_of_base read_number_of read_in_base_of formatted directive_of filled count_leading_zeros is_utf8 chars encode_utf8 point_code numbered parts_of
tables_with_handlers = refl

anchors_and_limits : AnchorsAndLimits
unfolding perform digits title_text prefix_of decimal_of numeral_of trimmed digits_of_base read_number_of read_in_base_of formatted directive_of filled count_leading_zeros is_utf8 chars encode_utf8 point_code numbered parts_of
anchors_and_limits = refl

empty_matches : EmptyMatches
unfolding perform digits title_text prefix_of decimal_of numeral_of trimmed digits_of_base read_number_of read_in_base_of formatted directive_of filled count_leading_zeros is_utf8 chars encode_utf8 point_code numbered parts_of
empty_matches = refl

gsub_in_gsub : GsubInGsub
unfolding perform digits title_text prefix_of decimal_of numeral_of trimmed digits_of_base read_number_of read_in_base_of formatted directive_of filled count_leading_zeros is_utf8 chars encode_utf8 point_code numbered parts_of
gsub_in_gsub = refl

errors_of_functions : ErrorsOfFunctions
unfolding perform digits title_text prefix_of decimal_of numeral_of trimmed digits_of_base read_number_of read_in_base_of formatted directive_of filled count_leading_zeros is_utf8 chars encode_utf8 point_code numbered parts_of
errors_of_functions = refl

invalid_replacements : InvalidReplacements
unfolding perform digits title_text prefix_of decimal_of numeral_of trimmed digits_of_base read_number_of read_in_base_of formatted directive_of filled count_leading_zeros is_utf8 chars encode_utf8 point_code numbered parts_of
invalid_replacements = refl

wrong_arguments_of_gsub : WrongArgumentsOfGsub
unfolding perform digits title_text prefix_of decimal_of numeral_of trimmed digits_of_base read_number_of read_in_base_of formatted directive_of filled count_leading_zeros is_utf8 chars encode_utf8 point_code numbered parts_of
wrong_arguments_of_gsub = refl

replaced_code_points : ReplacedCodePoints
unfolding perform digits title_text prefix_of decimal_of numeral_of trimmed digits_of_base read_number_of read_in_base_of formatted directive_of filled count_leading_zeros is_utf8 chars encode_utf8 point_code numbered parts_of
replaced_code_points = refl

pub all_replacing : AllReplacing
all_replacing = (gsub_by_text_costs, gsub_by_function_costs, gsub_by_table_costs, gsub_by_handler_costs, gsub_of_nothing_costs, gsub_is_paid_by_pieces, texts_with_captures, functions_with_captures, tables_with_captures, tables_with_handlers, anchors_and_limits, empty_matches, gsub_in_gsub, errors_of_functions, invalid_replacements, wrong_arguments_of_gsub, replaced_code_points)
