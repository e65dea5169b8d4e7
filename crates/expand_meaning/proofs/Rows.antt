-- The worked pages, by computation.
use Rattle.std.proofs.Common.{refl}
use Rattle.std.specs.Str.{is_utf8, chars}
use Rattle.std.specs.Fmt.{digits}
use lib.Utf8.{encode}
use Rattle.mw_frame.specs.WkBaseTitles.{prefix_of, title_text, prefixed_namespaces, namespace_named, title_of}
use Rattle.wiki_markup.specs.Items.{some_of, letters_from, run, items_from}
use Rattle.wiki_markup.specs.Pairing.{onto, nearest, as_text, rewrite_from, closing_marks, rewrite_times}
use Rattle.wiki_markup.specs.Trees.{bytes, trees_of}
use Rattle.page_run.specs.Perform.{perform}
use Rattle.expand_meaning.specs.Texts.{node_text, size_text, depth_text, loop_text, missing_text, escape_byte, error_text, no_function_text, no_module_text, number_of, are_equal}
use Rattle.expand_meaning.specs.Kind.{behind, title_named, word_of, function_or_title, kind_of}
use Rattle.expand_meaning.specs.Outcome.{next_event, page_text}
use Rattle.expand_meaning.specs.Examples.{Parameters, Arguments, Loops, Functions, Words, Invocations, Limits}

pub parameters : Parameters
unfolding some_of letters_from run items_from onto nearest as_text rewrite_from closing_marks rewrite_times bytes trees_of perform next_event page_text prefix_of title_text prefixed_namespaces namespace_named title_of node_text size_text depth_text loop_text missing_text escape_byte error_text no_function_text no_module_text number_of are_equal behind title_named word_of function_or_title kind_of is_utf8 chars encode digits
parameters = (refl, refl)

pub arguments : Arguments
unfolding some_of letters_from run items_from onto nearest as_text rewrite_from closing_marks rewrite_times bytes trees_of perform next_event page_text prefix_of title_text prefixed_namespaces namespace_named title_of node_text size_text depth_text loop_text missing_text escape_byte error_text no_function_text no_module_text number_of are_equal behind title_named word_of function_or_title kind_of is_utf8 chars encode digits
arguments = (refl, refl, refl, refl)

pub loops : Loops
unfolding some_of letters_from run items_from onto nearest as_text rewrite_from closing_marks rewrite_times bytes trees_of perform next_event page_text prefix_of title_text prefixed_namespaces namespace_named title_of node_text size_text depth_text loop_text missing_text escape_byte error_text no_function_text no_module_text number_of are_equal behind title_named word_of function_or_title kind_of is_utf8 chars encode digits
loops = (refl, refl)

pub functions : Functions
unfolding some_of letters_from run items_from onto nearest as_text rewrite_from closing_marks rewrite_times bytes trees_of perform next_event page_text prefix_of title_text prefixed_namespaces namespace_named title_of node_text size_text depth_text loop_text missing_text escape_byte error_text no_function_text no_module_text number_of are_equal behind title_named word_of function_or_title kind_of is_utf8 chars encode digits
functions = (refl, refl, refl, refl)

pub words : Words
unfolding some_of letters_from run items_from onto nearest as_text rewrite_from closing_marks rewrite_times bytes trees_of perform next_event page_text prefix_of title_text prefixed_namespaces namespace_named title_of node_text size_text depth_text loop_text missing_text escape_byte error_text no_function_text no_module_text number_of are_equal behind title_named word_of function_or_title kind_of is_utf8 chars encode digits
words = (refl, refl, refl)

pub invocations : Invocations
unfolding some_of letters_from run items_from onto nearest as_text rewrite_from closing_marks rewrite_times bytes trees_of perform next_event page_text prefix_of title_text prefixed_namespaces namespace_named title_of node_text size_text depth_text loop_text missing_text escape_byte error_text no_function_text no_module_text number_of are_equal behind title_named word_of function_or_title kind_of is_utf8 chars encode digits
invocations = (refl, refl)

pub limits : Limits
unfolding some_of letters_from run items_from onto nearest as_text rewrite_from closing_marks rewrite_times bytes trees_of perform next_event page_text prefix_of title_text prefixed_namespaces namespace_named title_of node_text size_text depth_text loop_text missing_text escape_byte error_text no_function_text no_module_text number_of are_equal behind title_named word_of function_or_title kind_of is_utf8 chars encode digits
limits = (refl, refl, refl, refl)
