-- EXAMPLES of statements, loops and constructors. They compute.
use Rattle.std.proofs.Common.{refl}
use Rattle.page_run.specs.Perform.{perform}
use Rattle.lua_syntax.specs.WkBaseTitles.{title_text, prefix_of}
use Rattle.std.specs.Fmt.{digits}
use Rattle.lua_format.specs.LuaNumberNumerals.{decimal_of, numeral_of, trimmed, digits_of_base, read_number_of, read_in_base_of}
use Rattle.lua_meaning.specs.ExampleStatements.{Swap, KeysFirst, LastFirst, MoreTargets, Shadowed, LocalFunctions, GlobalFunctions, Branches, WhileLoop, RepeatLoop, RepeatBreak, Counting, CountingToTheEnd, StepOfZero, Generic, OwnIterator, Cleared, LoopMessages, WalkHandlers, LastPlace, ReturnFromLoops, Constructors, Methods, AllStatements}

swap : Swap
unfolding perform digits title_text prefix_of decimal_of numeral_of trimmed digits_of_base read_number_of read_in_base_of
swap = refl

keys_first : KeysFirst
unfolding perform digits title_text prefix_of decimal_of numeral_of trimmed digits_of_base read_number_of read_in_base_of
keys_first = refl

last_first : LastFirst
unfolding perform digits title_text prefix_of decimal_of numeral_of trimmed digits_of_base read_number_of read_in_base_of
last_first = refl

more_targets : MoreTargets
unfolding perform digits title_text prefix_of decimal_of numeral_of trimmed digits_of_base read_number_of read_in_base_of
more_targets = refl

shadowed : Shadowed
unfolding perform digits title_text prefix_of decimal_of numeral_of trimmed digits_of_base read_number_of read_in_base_of
shadowed = refl

local_functions : LocalFunctions
unfolding perform digits title_text prefix_of decimal_of numeral_of trimmed digits_of_base read_number_of read_in_base_of
local_functions = refl

global_functions : GlobalFunctions
unfolding perform digits title_text prefix_of decimal_of numeral_of trimmed digits_of_base read_number_of read_in_base_of
global_functions = refl

branches : Branches
unfolding perform digits title_text prefix_of decimal_of numeral_of trimmed digits_of_base read_number_of read_in_base_of
branches = refl

while_loop : WhileLoop
unfolding perform digits title_text prefix_of decimal_of numeral_of trimmed digits_of_base read_number_of read_in_base_of
while_loop = refl

repeat_loop : RepeatLoop
unfolding perform digits title_text prefix_of decimal_of numeral_of trimmed digits_of_base read_number_of read_in_base_of
repeat_loop = refl

repeat_break : RepeatBreak
unfolding perform digits title_text prefix_of decimal_of numeral_of trimmed digits_of_base read_number_of read_in_base_of
repeat_break = refl

counting : Counting
unfolding perform digits title_text prefix_of decimal_of numeral_of trimmed digits_of_base read_number_of read_in_base_of
counting = refl

counting_to_the_end : CountingToTheEnd
unfolding perform digits title_text prefix_of decimal_of numeral_of trimmed digits_of_base read_number_of read_in_base_of
counting_to_the_end = refl

step_of_zero : StepOfZero
unfolding perform digits title_text prefix_of decimal_of numeral_of trimmed digits_of_base read_number_of read_in_base_of
step_of_zero = refl

generic : Generic
unfolding perform digits title_text prefix_of decimal_of numeral_of trimmed digits_of_base read_number_of read_in_base_of
generic = refl

own_iterator : OwnIterator
unfolding perform digits title_text prefix_of decimal_of numeral_of trimmed digits_of_base read_number_of read_in_base_of
own_iterator = refl

cleared : Cleared
unfolding perform digits title_text prefix_of decimal_of numeral_of trimmed digits_of_base read_number_of read_in_base_of
cleared = refl

loop_messages : LoopMessages
unfolding perform digits title_text prefix_of decimal_of numeral_of trimmed digits_of_base read_number_of read_in_base_of
loop_messages = refl

walk_handlers : WalkHandlers
unfolding perform digits title_text prefix_of decimal_of numeral_of trimmed digits_of_base read_number_of read_in_base_of
walk_handlers = refl

last_place : LastPlace
unfolding perform digits title_text prefix_of decimal_of numeral_of trimmed digits_of_base read_number_of read_in_base_of
last_place = refl

return_from_loops : ReturnFromLoops
unfolding perform digits title_text prefix_of decimal_of numeral_of trimmed digits_of_base read_number_of read_in_base_of
return_from_loops = refl

constructors : Constructors
unfolding perform digits title_text prefix_of decimal_of numeral_of trimmed digits_of_base read_number_of read_in_base_of
constructors = refl

methods : Methods
unfolding perform digits title_text prefix_of decimal_of numeral_of trimmed digits_of_base read_number_of read_in_base_of
methods = refl

pub all_statements : AllStatements
all_statements = (swap, keys_first, last_first, more_targets, shadowed, local_functions, global_functions, branches, while_loop, repeat_loop, repeat_break, counting, counting_to_the_end, step_of_zero, generic, own_iterator, cleared, loop_messages, walk_handlers, last_place, return_from_loops, constructors, methods)
