-- The worked test modules, by computation.
use Rattle.std.proofs.Common.{refl}
use Rattle.std.specs.Str.{is_utf8, chars}
use Rattle.std.specs.Fmt.{digits}
use lib.Utf8.{encode}
use Rattle.wk_base.specs.Titles.{prefix_of, title_text, prefixed_namespaces, namespace_named, title_of}
use Rattle.wiki_markup.specs.Shown.{behind as behind_word, past, behind_next, before_next, opening, closing, self_closing, comment, more_comments, comment_line, attributes, after_name, literal_tag, literal, tag, element, include_tags, self_closing_include, at_place, pieces, parts, has_parts, pieces_of, shown_bytes, kept_spans, cut_places, shown_of}
use Rattle.wiki_markup.specs.Items.{some_of, letters_from, run, items_from}
use Rattle.wiki_markup.specs.Pairing.{onto, nearest, as_text, rewrite_from, closing_marks, rewrite_times}
use Rattle.wiki_markup.specs.Trees.{bytes, trees_of}
use Rattle.page_run.specs.Perform.{perform}
use Rattle.expand_meaning.specs.Texts.{node_text, size_text, depth_text, loop_text, missing_text, escape_byte, error_text, no_function_text, no_module_text, number_of, are_equal}
use Rattle.expand_meaning.specs.Kind.{behind, title_named, word_of, function_or_title, kind_of}
use Rattle.lua_number.specs.Numerals.{decimal_of, numeral_of, trimmed, digits_of_base, read_number_of, read_in_base_of}
use Rattle.page_meaning.specs.Drive.{drive}
use Rattle.wiki_tests.specs.Examples.{CasesAreAlone, StepsAreSpent, FaultsAreTold, TitlesAreInOrder}

pub cases_are_alone : CasesAreAlone
unfolding behind_word past behind_next before_next opening closing self_closing comment more_comments comment_line attributes after_name literal_tag literal tag element include_tags self_closing_include at_place pieces parts has_parts pieces_of shown_bytes kept_spans cut_places shown_of some_of letters_from run items_from onto nearest as_text rewrite_from closing_marks rewrite_times bytes trees_of perform drive prefix_of title_text prefixed_namespaces namespace_named title_of node_text size_text depth_text loop_text missing_text escape_byte error_text no_function_text no_module_text number_of are_equal behind title_named word_of function_or_title kind_of is_utf8 chars encode digits decimal_of numeral_of trimmed digits_of_base read_number_of read_in_base_of
cases_are_alone = refl

pub steps_are_spent : StepsAreSpent
unfolding behind_word past behind_next before_next opening closing self_closing comment more_comments comment_line attributes after_name literal_tag literal tag element include_tags self_closing_include at_place pieces parts has_parts pieces_of shown_bytes kept_spans cut_places shown_of some_of letters_from run items_from onto nearest as_text rewrite_from closing_marks rewrite_times bytes trees_of perform drive prefix_of title_text prefixed_namespaces namespace_named title_of node_text size_text depth_text loop_text missing_text escape_byte error_text no_function_text no_module_text number_of are_equal behind title_named word_of function_or_title kind_of is_utf8 chars encode digits decimal_of numeral_of trimmed digits_of_base read_number_of read_in_base_of
steps_are_spent = refl

pub faults_are_told : FaultsAreTold
unfolding prefix_of title_text digits
faults_are_told = refl

pub titles_are_in_order : TitlesAreInOrder
unfolding prefix_of title_text
titles_are_in_order = refl
