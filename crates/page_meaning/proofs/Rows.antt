-- The worked pages, by computation.
use Rattle.std.proofs.Common.{refl}
use Rattle.std.specs.Str.{is_utf8, chars}
use Rattle.std.specs.Fmt.{digits}
use lib.Utf8.{encode}
use Rattle.wk_base.specs.Titles.{prefix_of, title_text, prefixed_namespaces, namespace_named, title_of}
use Rattle.expand_meaning.specs.WikiMarkupShown.{behind as behind_word, past, behind_next, before_next, opening, closing, self_closing, comment, more_comments, comment_line, attributes, after_name, literal_tag, literal, tag, element, include_tags, self_closing_include, at_place, pieces, parts, has_parts, pieces_of, shown_bytes, kept_spans, cut_places, shown_of}
use Rattle.expand_meaning.specs.WikiMarkupItems.{some_of, letters_from, run, items_from}
use Rattle.expand_meaning.specs.WikiMarkupPairing.{onto, nearest, as_text, rewrite_from, closing_marks, rewrite_times}
use Rattle.expand_meaning.specs.WikiMarkupTrees.{bytes, trees_of}
use Rattle.page_run.specs.Perform.{perform}
use Rattle.expand_meaning.specs.Texts.{node_text, size_text, depth_text, loop_text, missing_text, escape_byte, error_text, no_function_text, no_module_text, number_of, are_equal}
use Rattle.expand_meaning.specs.Kind.{behind, title_named, word_of, function_or_title, kind_of}
use Rattle.lua_meaning_laws.specs.LuaNumberNumerals.{decimal_of, numeral_of, trimmed, digits_of_base, read_number_of, read_in_base_of}
use Rattle.page_meaning.specs.Drive.{drive}
use Rattle.page_meaning.specs.Examples.{GlobalsAreFresh, FailuresAreShown, GivenStands, SpentPagesGoOn, TextsAreExpanded, TemplatesAreExpanded, LoadsAreKept, ShortLoadsAreFresh, InnerLoadsAreKept, LoadsFail, TwiceIsTwice}

pub globals_are_fresh : GlobalsAreFresh
unfolding behind_word past behind_next before_next opening closing self_closing comment more_comments comment_line attributes after_name literal_tag literal tag element include_tags self_closing_include at_place pieces parts has_parts pieces_of shown_bytes kept_spans cut_places shown_of some_of letters_from run items_from onto nearest as_text rewrite_from closing_marks rewrite_times bytes trees_of perform drive prefix_of title_text prefixed_namespaces namespace_named title_of node_text size_text depth_text loop_text missing_text escape_byte error_text no_function_text no_module_text number_of are_equal behind title_named word_of function_or_title kind_of is_utf8 chars encode digits decimal_of numeral_of trimmed digits_of_base read_number_of read_in_base_of
globals_are_fresh = refl

pub failures_are_shown : FailuresAreShown
unfolding behind_word past behind_next before_next opening closing self_closing comment more_comments comment_line attributes after_name literal_tag literal tag element include_tags self_closing_include at_place pieces parts has_parts pieces_of shown_bytes kept_spans cut_places shown_of some_of letters_from run items_from onto nearest as_text rewrite_from closing_marks rewrite_times bytes trees_of perform drive prefix_of title_text prefixed_namespaces namespace_named title_of node_text size_text depth_text loop_text missing_text escape_byte error_text no_function_text no_module_text number_of are_equal behind title_named word_of function_or_title kind_of is_utf8 chars encode digits decimal_of numeral_of trimmed digits_of_base read_number_of read_in_base_of
failures_are_shown = (refl, refl, refl)

pub given_stands : GivenStands
unfolding behind_word past behind_next before_next opening closing self_closing comment more_comments comment_line attributes after_name literal_tag literal tag element include_tags self_closing_include at_place pieces parts has_parts pieces_of shown_bytes kept_spans cut_places shown_of some_of letters_from run items_from onto nearest as_text rewrite_from closing_marks rewrite_times bytes trees_of perform drive prefix_of title_text prefixed_namespaces namespace_named title_of node_text size_text depth_text loop_text missing_text escape_byte error_text no_function_text no_module_text number_of are_equal behind title_named word_of function_or_title kind_of is_utf8 chars encode digits decimal_of numeral_of trimmed digits_of_base read_number_of read_in_base_of
given_stands = refl

pub spent_pages_go_on : SpentPagesGoOn
unfolding behind_word past behind_next before_next opening closing self_closing comment more_comments comment_line attributes after_name literal_tag literal tag element include_tags self_closing_include at_place pieces parts has_parts pieces_of shown_bytes kept_spans cut_places shown_of some_of letters_from run items_from onto nearest as_text rewrite_from closing_marks rewrite_times bytes trees_of perform drive prefix_of title_text prefixed_namespaces namespace_named title_of node_text size_text depth_text loop_text missing_text escape_byte error_text no_function_text no_module_text number_of are_equal behind title_named word_of function_or_title kind_of is_utf8 chars encode digits decimal_of numeral_of trimmed digits_of_base read_number_of read_in_base_of
spent_pages_go_on = (refl, refl)

pub texts_are_expanded : TextsAreExpanded
unfolding behind_word past behind_next before_next opening closing self_closing comment more_comments comment_line attributes after_name literal_tag literal tag element include_tags self_closing_include at_place pieces parts has_parts pieces_of shown_bytes kept_spans cut_places shown_of some_of letters_from run items_from onto nearest as_text rewrite_from closing_marks rewrite_times bytes trees_of perform drive prefix_of title_text prefixed_namespaces namespace_named title_of node_text size_text depth_text loop_text missing_text escape_byte error_text no_function_text no_module_text number_of are_equal behind title_named word_of function_or_title kind_of is_utf8 chars encode digits decimal_of numeral_of trimmed digits_of_base read_number_of read_in_base_of
texts_are_expanded = (refl, refl, refl)

pub templates_are_expanded : TemplatesAreExpanded
unfolding behind_word past behind_next before_next opening closing self_closing comment more_comments comment_line attributes after_name literal_tag literal tag element include_tags self_closing_include at_place pieces parts has_parts pieces_of shown_bytes kept_spans cut_places shown_of some_of letters_from run items_from onto nearest as_text rewrite_from closing_marks rewrite_times bytes trees_of perform drive prefix_of title_text prefixed_namespaces namespace_named title_of node_text size_text depth_text loop_text missing_text escape_byte error_text no_function_text no_module_text number_of are_equal behind title_named word_of function_or_title kind_of is_utf8 chars encode digits decimal_of numeral_of trimmed digits_of_base read_number_of read_in_base_of
templates_are_expanded = refl

pub loads_are_kept : LoadsAreKept
unfolding behind_word past behind_next before_next opening closing self_closing comment more_comments comment_line attributes after_name literal_tag literal tag element include_tags self_closing_include at_place pieces parts has_parts pieces_of shown_bytes kept_spans cut_places shown_of some_of letters_from run items_from onto nearest as_text rewrite_from closing_marks rewrite_times bytes trees_of perform drive prefix_of title_text prefixed_namespaces namespace_named title_of node_text size_text depth_text loop_text missing_text escape_byte error_text no_function_text no_module_text number_of are_equal behind title_named word_of function_or_title kind_of is_utf8 chars encode digits decimal_of numeral_of trimmed digits_of_base read_number_of read_in_base_of
loads_are_kept = (refl, refl, refl)

pub short_loads_are_fresh : ShortLoadsAreFresh
unfolding behind_word past behind_next before_next opening closing self_closing comment more_comments comment_line attributes after_name literal_tag literal tag element include_tags self_closing_include at_place pieces parts has_parts pieces_of shown_bytes kept_spans cut_places shown_of some_of letters_from run items_from onto nearest as_text rewrite_from closing_marks rewrite_times bytes trees_of perform drive prefix_of title_text prefixed_namespaces namespace_named title_of node_text size_text depth_text loop_text missing_text escape_byte error_text no_function_text no_module_text number_of are_equal behind title_named word_of function_or_title kind_of is_utf8 chars encode digits decimal_of numeral_of trimmed digits_of_base read_number_of read_in_base_of
short_loads_are_fresh = refl

pub inner_loads_are_kept : InnerLoadsAreKept
unfolding behind_word past behind_next before_next opening closing self_closing comment more_comments comment_line attributes after_name literal_tag literal tag element include_tags self_closing_include at_place pieces parts has_parts pieces_of shown_bytes kept_spans cut_places shown_of some_of letters_from run items_from onto nearest as_text rewrite_from closing_marks rewrite_times bytes trees_of perform drive prefix_of title_text prefixed_namespaces namespace_named title_of node_text size_text depth_text loop_text missing_text escape_byte error_text no_function_text no_module_text number_of are_equal behind title_named word_of function_or_title kind_of is_utf8 chars encode digits decimal_of numeral_of trimmed digits_of_base read_number_of read_in_base_of
inner_loads_are_kept = (refl, refl)

pub loads_fail : LoadsFail
unfolding behind_word past behind_next before_next opening closing self_closing comment more_comments comment_line attributes after_name literal_tag literal tag element include_tags self_closing_include at_place pieces parts has_parts pieces_of shown_bytes kept_spans cut_places shown_of some_of letters_from run items_from onto nearest as_text rewrite_from closing_marks rewrite_times bytes trees_of perform drive prefix_of title_text prefixed_namespaces namespace_named title_of node_text size_text depth_text loop_text missing_text escape_byte error_text no_function_text no_module_text number_of are_equal behind title_named word_of function_or_title kind_of is_utf8 chars encode digits decimal_of numeral_of trimmed digits_of_base read_number_of read_in_base_of
loads_fail = (refl, refl, refl, refl)

pub twice_is_twice : TwiceIsTwice
unfolding behind_word past behind_next before_next opening closing self_closing comment more_comments comment_line attributes after_name literal_tag literal tag element include_tags self_closing_include at_place pieces parts has_parts pieces_of shown_bytes kept_spans cut_places shown_of some_of letters_from run items_from onto nearest as_text rewrite_from closing_marks rewrite_times bytes trees_of perform drive prefix_of title_text prefixed_namespaces namespace_named title_of node_text size_text depth_text loop_text missing_text escape_byte error_text no_function_text no_module_text number_of are_equal behind title_named word_of function_or_title kind_of is_utf8 chars encode digits decimal_of numeral_of trimmed digits_of_base read_number_of read_in_base_of
twice_is_twice = refl
