-- EXAMPLES of single charges, worked out by hand. They compute.
use Rattle.std.proofs.Common.{refl}
use Rattle.page_run.specs.Perform.{perform}
use Rattle.lua_syntax.specs.WkBaseTitles.{title_text, prefix_of}
use Rattle.std.specs.Fmt.{digits}
use Rattle.lua_format.specs.LuaNumberNumerals.{decimal_of, numeral_of, trimmed, digits_of_base, read_number_of, read_in_base_of}
use Rattle.lua_meaning.specs.ExampleCosts.{Nothing, DotsCost, WhileCosts, RepeatCosts, ForCosts, EachCosts, ClearedCosts, JoinsCost, OrderCosts, EqualityIsFree, TextCosts, UnpackCosts, LinkCosts, CallLinkCosts, MessageCosts, MethodCosts, LocalFunctionCosts, GlobalCosts, ChoicesCost, BranchesCost, TargetsCost, SetLinkCosts, RawsetCosts, AtMostCosts, EndCosts, HandlerMakesNoText, HandlerOfTextCosts, AnswerAsksHandlers, NoLevelsInHandlers, RequireCosts, AllCosts}

nothing : Nothing
unfolding perform digits title_text prefix_of decimal_of numeral_of trimmed digits_of_base read_number_of read_in_base_of
nothing = (refl, refl)

dots_cost : DotsCost
unfolding perform digits title_text prefix_of decimal_of numeral_of trimmed digits_of_base read_number_of read_in_base_of
dots_cost = (refl, refl)

while_costs : WhileCosts
unfolding perform digits title_text prefix_of decimal_of numeral_of trimmed digits_of_base read_number_of read_in_base_of
while_costs = (refl, refl)

repeat_costs : RepeatCosts
unfolding perform digits title_text prefix_of decimal_of numeral_of trimmed digits_of_base read_number_of read_in_base_of
repeat_costs = (refl, refl)

for_costs : ForCosts
unfolding perform digits title_text prefix_of decimal_of numeral_of trimmed digits_of_base read_number_of read_in_base_of
for_costs = (refl, refl)

each_costs : EachCosts
unfolding perform digits title_text prefix_of decimal_of numeral_of trimmed digits_of_base read_number_of read_in_base_of
each_costs = (refl, refl)

cleared_costs : ClearedCosts
unfolding perform digits title_text prefix_of decimal_of numeral_of trimmed digits_of_base read_number_of read_in_base_of
cleared_costs = (refl, refl)

joins_cost : JoinsCost
unfolding perform digits title_text prefix_of decimal_of numeral_of trimmed digits_of_base read_number_of read_in_base_of
joins_cost = (refl, refl)

order_costs : OrderCosts
unfolding perform digits title_text prefix_of decimal_of numeral_of trimmed digits_of_base read_number_of read_in_base_of
order_costs = (refl, refl)

equality_is_free : EqualityIsFree
unfolding perform digits title_text prefix_of decimal_of numeral_of trimmed digits_of_base read_number_of read_in_base_of
equality_is_free = (refl, refl)

text_costs : TextCosts
unfolding perform digits title_text prefix_of decimal_of numeral_of trimmed digits_of_base read_number_of read_in_base_of
text_costs = (refl, refl)

unpack_costs : UnpackCosts
unfolding perform digits title_text prefix_of decimal_of numeral_of trimmed digits_of_base read_number_of read_in_base_of
unpack_costs = (refl, refl)

link_costs : LinkCosts
unfolding perform digits title_text prefix_of decimal_of numeral_of trimmed digits_of_base read_number_of read_in_base_of
link_costs = (refl, refl)

call_link_costs : CallLinkCosts
unfolding perform digits title_text prefix_of decimal_of numeral_of trimmed digits_of_base read_number_of read_in_base_of
call_link_costs = (refl, refl)

message_costs : MessageCosts
unfolding perform digits title_text prefix_of decimal_of numeral_of trimmed digits_of_base read_number_of read_in_base_of
message_costs = (refl, refl)

method_costs : MethodCosts
unfolding perform digits title_text prefix_of decimal_of numeral_of trimmed digits_of_base read_number_of read_in_base_of
method_costs = (refl, refl)

local_function_costs : LocalFunctionCosts
unfolding perform digits title_text prefix_of decimal_of numeral_of trimmed digits_of_base read_number_of read_in_base_of
local_function_costs = (refl, refl)

global_costs : GlobalCosts
unfolding perform digits title_text prefix_of decimal_of numeral_of trimmed digits_of_base read_number_of read_in_base_of
global_costs = (refl, refl)

choices_cost : ChoicesCost
unfolding perform digits title_text prefix_of decimal_of numeral_of trimmed digits_of_base read_number_of read_in_base_of
choices_cost = (refl, refl)

branches_cost : BranchesCost
unfolding perform digits title_text prefix_of decimal_of numeral_of trimmed digits_of_base read_number_of read_in_base_of
branches_cost = (refl, refl)

targets_cost : TargetsCost
unfolding perform digits title_text prefix_of decimal_of numeral_of trimmed digits_of_base read_number_of read_in_base_of
targets_cost = (refl, refl)

set_link_costs : SetLinkCosts
unfolding perform digits title_text prefix_of decimal_of numeral_of trimmed digits_of_base read_number_of read_in_base_of
set_link_costs = (refl, refl)

rawset_costs : RawsetCosts
unfolding perform digits title_text prefix_of decimal_of numeral_of trimmed digits_of_base read_number_of read_in_base_of
rawset_costs = (refl, refl)

at_most_costs : AtMostCosts
unfolding perform digits title_text prefix_of decimal_of numeral_of trimmed digits_of_base read_number_of read_in_base_of
at_most_costs = (refl, refl)

end_costs : EndCosts
unfolding perform digits title_text prefix_of decimal_of numeral_of trimmed digits_of_base read_number_of read_in_base_of
end_costs = (refl, refl)

handler_makes_no_text : HandlerMakesNoText
unfolding perform digits title_text prefix_of decimal_of numeral_of trimmed digits_of_base read_number_of read_in_base_of
handler_makes_no_text = (refl, refl)

handler_of_text_costs : HandlerOfTextCosts
unfolding perform digits title_text prefix_of decimal_of numeral_of trimmed digits_of_base read_number_of read_in_base_of
handler_of_text_costs = (refl, refl)

answer_asks_handlers : AnswerAsksHandlers
unfolding perform digits title_text prefix_of decimal_of numeral_of trimmed digits_of_base read_number_of read_in_base_of
answer_asks_handlers = (refl, refl)

no_levels_in_handlers : NoLevelsInHandlers
unfolding perform digits title_text prefix_of decimal_of numeral_of trimmed digits_of_base read_number_of read_in_base_of
no_levels_in_handlers = (refl, refl)

require_costs : RequireCosts
unfolding perform digits title_text prefix_of decimal_of numeral_of trimmed digits_of_base read_number_of read_in_base_of
require_costs = (refl, refl)

pub all_costs : AllCosts
all_costs = (nothing, dots_cost, while_costs, repeat_costs, for_costs, each_costs, cleared_costs, joins_cost, order_costs, equality_is_free, text_costs, unpack_costs, link_costs, call_link_costs, message_costs, method_costs, local_function_costs, global_costs, choices_cost, branches_cost, targets_cost, set_link_costs, rawset_costs, at_most_costs, end_costs, handler_makes_no_text, handler_of_text_costs, answer_asks_handlers, no_levels_in_handlers, require_costs)
