-- EXAMPLES of frames and their questions, in the body of template T. They compute.
use Rattle.std.proofs.Common.{refl}
use Rattle.page_run.specs.Perform.{perform}
use Rattle.lua_syntax.specs.WkBaseTitles.{title_text, prefix_of, title_of, namespace_named, prefixed_namespaces}
use Rattle.std.specs.Fmt.{digits}
use Rattle.std.specs.Str.{is_utf8, chars}
use lib.Utf8.{encode}
use Rattle.lua_format.specs.LuaNumberNumerals.{decimal_of, numeral_of, trimmed, digits_of_base, read_number_of, read_in_base_of}
use Rattle.lua_meaning.specs.ExampleFrames.{Expands, Merges, Preprocesses, OwnGlobals, NoSuchTemplate, WrongAnswers, RequestsFail, Parents, ParentCosts, Children, ChildCosts, ChildAsks, ChildErrors, SingleArguments, ArgumentCosts, WalksArguments, LongNames, FramesKeepArguments, QuestionsKeepArguments, NumberedFrames, CopiedFrames, CloneCosts, NoFrame, Tags, BadTags, TagCosts, CurrentTitle, ClearedCosts, ClearedBeforeAFault, TitleCosts, AllFrames}

expands : Expands
unfolding perform digits title_text prefix_of decimal_of numeral_of trimmed digits_of_base read_number_of read_in_base_of title_of namespace_named prefixed_namespaces is_utf8 chars encode
expands = (refl, refl, refl, refl)

merges : Merges
unfolding perform digits title_text prefix_of decimal_of numeral_of trimmed digits_of_base read_number_of read_in_base_of title_of namespace_named prefixed_namespaces is_utf8 chars encode
merges = refl

preprocesses : Preprocesses
unfolding perform digits title_text prefix_of decimal_of numeral_of trimmed digits_of_base read_number_of read_in_base_of title_of namespace_named prefixed_namespaces is_utf8 chars encode
preprocesses = (refl, refl, refl, refl)

own_globals : OwnGlobals
unfolding perform digits title_text prefix_of decimal_of numeral_of trimmed digits_of_base read_number_of read_in_base_of title_of namespace_named prefixed_namespaces is_utf8 chars encode
own_globals = refl

no_such_template : NoSuchTemplate
unfolding perform digits title_text prefix_of decimal_of numeral_of trimmed digits_of_base read_number_of read_in_base_of title_of namespace_named prefixed_namespaces is_utf8 chars encode
no_such_template = refl

wrong_answers : WrongAnswers
unfolding perform digits title_text prefix_of decimal_of numeral_of trimmed digits_of_base read_number_of read_in_base_of title_of namespace_named prefixed_namespaces is_utf8 chars encode
wrong_answers = (refl, refl, refl)

requests_fail : RequestsFail
unfolding perform digits title_text prefix_of decimal_of numeral_of trimmed digits_of_base read_number_of read_in_base_of title_of namespace_named prefixed_namespaces is_utf8 chars encode
requests_fail = refl

parents : Parents
unfolding perform digits title_text prefix_of decimal_of numeral_of trimmed digits_of_base read_number_of read_in_base_of title_of namespace_named prefixed_namespaces is_utf8 chars encode
parents = refl

parent_costs : ParentCosts
unfolding perform digits title_text prefix_of decimal_of numeral_of trimmed digits_of_base read_number_of read_in_base_of title_of namespace_named prefixed_namespaces is_utf8 chars encode
parent_costs = (refl, refl)

children : Children
unfolding perform digits title_text prefix_of decimal_of numeral_of trimmed digits_of_base read_number_of read_in_base_of title_of namespace_named prefixed_namespaces is_utf8 chars encode
children = refl

child_costs : ChildCosts
unfolding perform digits title_text prefix_of decimal_of numeral_of trimmed digits_of_base read_number_of read_in_base_of title_of namespace_named prefixed_namespaces is_utf8 chars encode
child_costs = (refl, refl)

child_asks : ChildAsks
unfolding perform digits title_text prefix_of decimal_of numeral_of trimmed digits_of_base read_number_of read_in_base_of title_of namespace_named prefixed_namespaces is_utf8 chars encode
child_asks = refl

child_errors : ChildErrors
unfolding perform digits title_text prefix_of decimal_of numeral_of trimmed digits_of_base read_number_of read_in_base_of title_of namespace_named prefixed_namespaces is_utf8 chars encode
child_errors = refl

single_arguments : SingleArguments
unfolding perform digits title_text prefix_of decimal_of numeral_of trimmed digits_of_base read_number_of read_in_base_of title_of namespace_named prefixed_namespaces is_utf8 chars encode
single_arguments = refl

argument_costs : ArgumentCosts
unfolding perform digits title_text prefix_of decimal_of numeral_of trimmed digits_of_base read_number_of read_in_base_of title_of namespace_named prefixed_namespaces is_utf8 chars encode
argument_costs = (refl, refl)

walks_arguments : WalksArguments
unfolding perform digits title_text prefix_of decimal_of numeral_of trimmed digits_of_base read_number_of read_in_base_of title_of namespace_named prefixed_namespaces is_utf8 chars encode
walks_arguments = refl

long_names : LongNames
unfolding perform digits title_text prefix_of decimal_of numeral_of trimmed digits_of_base read_number_of read_in_base_of title_of namespace_named prefixed_namespaces is_utf8 chars encode
long_names = refl

frames_keep_arguments : FramesKeepArguments
unfolding perform digits title_text prefix_of decimal_of numeral_of trimmed digits_of_base read_number_of read_in_base_of title_of namespace_named prefixed_namespaces is_utf8 chars encode
frames_keep_arguments = refl

questions_keep_arguments : QuestionsKeepArguments
unfolding perform digits title_text prefix_of decimal_of numeral_of trimmed digits_of_base read_number_of read_in_base_of title_of namespace_named prefixed_namespaces is_utf8 chars encode
questions_keep_arguments = refl

numbered_frames : NumberedFrames
unfolding perform digits title_text prefix_of decimal_of numeral_of trimmed digits_of_base read_number_of read_in_base_of title_of namespace_named prefixed_namespaces is_utf8 chars encode
numbered_frames = refl

copied_frames : CopiedFrames
unfolding perform digits title_text prefix_of decimal_of numeral_of trimmed digits_of_base read_number_of read_in_base_of title_of namespace_named prefixed_namespaces is_utf8 chars encode
copied_frames = refl

clone_costs : CloneCosts
unfolding perform digits title_text prefix_of decimal_of numeral_of trimmed digits_of_base read_number_of read_in_base_of title_of namespace_named prefixed_namespaces is_utf8 chars encode
clone_costs = (refl, refl)

no_frame : NoFrame
unfolding perform digits title_text prefix_of decimal_of numeral_of trimmed digits_of_base read_number_of read_in_base_of title_of namespace_named prefixed_namespaces is_utf8 chars encode
no_frame = refl

tags : Tags
unfolding perform digits title_text prefix_of decimal_of numeral_of trimmed digits_of_base read_number_of read_in_base_of title_of namespace_named prefixed_namespaces is_utf8 chars encode
tags = refl

bad_tags : BadTags
unfolding perform digits title_text prefix_of decimal_of numeral_of trimmed digits_of_base read_number_of read_in_base_of title_of namespace_named prefixed_namespaces is_utf8 chars encode
bad_tags = refl

tag_costs : TagCosts
unfolding perform digits title_text prefix_of decimal_of numeral_of trimmed digits_of_base read_number_of read_in_base_of title_of namespace_named prefixed_namespaces is_utf8 chars encode
tag_costs = (refl, refl)

current_title : CurrentTitle
unfolding perform digits title_text prefix_of decimal_of numeral_of trimmed digits_of_base read_number_of read_in_base_of title_of namespace_named prefixed_namespaces is_utf8 chars encode
current_title = refl

cleared_costs : ClearedCosts
unfolding perform digits title_text prefix_of decimal_of numeral_of trimmed digits_of_base read_number_of read_in_base_of title_of namespace_named prefixed_namespaces is_utf8 chars encode
cleared_costs = (refl, refl)

cleared_before_a_fault : ClearedBeforeAFault
unfolding perform digits title_text prefix_of decimal_of numeral_of trimmed digits_of_base read_number_of read_in_base_of title_of namespace_named prefixed_namespaces is_utf8 chars encode
cleared_before_a_fault = (refl, refl)

title_costs : TitleCosts
unfolding perform digits title_text prefix_of decimal_of numeral_of trimmed digits_of_base read_number_of read_in_base_of title_of namespace_named prefixed_namespaces is_utf8 chars encode
title_costs = (refl, refl)

pub all_frames : AllFrames
all_frames = (expands, merges, preprocesses, own_globals, no_such_template, wrong_answers, requests_fail, parents, parent_costs, children, child_costs, child_asks, child_errors, single_arguments, argument_costs, walks_arguments, long_names, frames_keep_arguments, questions_keep_arguments, numbered_frames, copied_frames, clone_costs, no_frame, tags, bad_tags, tag_costs, current_title, cleared_costs, cleared_before_a_fault, title_costs)
