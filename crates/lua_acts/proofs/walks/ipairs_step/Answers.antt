use Rattle.std.proofs.Common.{◌∙◌}
use Rattle.std.specs.Prelude.{codes}
use Rattle.lua_libs.specs.LuaMeaningArguments.{a_number}
use Rattle.lua_code.specs.LuaMeaningValues.{rest}
use Rattle.lua_code.specs.LuaSlotsCallBacks.{next_place}
use Rattle.lua_state.specs.LuaSlotsErrors.{with_argument}
use Rattle.lua_state.specs.LuaStackSeen.{values_seen}
use Rattle.lua_state.specs.Seen.{slots_of, frames_of}
use Rattle.lua_state.proofs.Staying.{state_later}
use Rattle.lua_acts.proofs.Refusing.{argument_found, argument_refused}
use Rattle.lua_acts.proofs.walks.ipairs_step.Goals as goal

pub returns-in-Ok : goal.returns-in-Ok
returns-in-Ok c =
    argument_found c.args.store.now c.a_table.new.store c.step_over.new.store c.args.state.now c.args.left.now c.step_over.new.left c.args.line _ c.in-Ok.table.at c.in_ok-turn-in-Ok.turn
    (λ y t. with_argument (a_number 2 (codes "ipairs") (rest (values_seen y.texts c.args.arguments))) c.args.line (frames_of y c.args.state.now) (slots_of y c.args.state.now)
    (λ n. next_place t n (frames_of y c.args.state.now) (slots_of y c.args.state.now)))
    (rw (c.as_slice-values.ensures ∙ c.into_list-list.ensures) at c.in-Ok.ensures.found) c.in-Ok.ensures.same (rw (c.as_slice-values.ensures ∙ c.into_list-list.ensures) at c.in_ok-turn-in-Ok.ensures)

pub returns : goal.returns
returns c =
    argument_refused c.args.store.now c.a_table.new.store c.refuse.new.store c.args.state.now c.args.left.now c.refuse.new.left c.args.line _ c.in-Err.stop c.in_ok-turn-in-Err.turn _
    c.requires.state c.in-Err.ensures.later (rw (c.as_slice-values.ensures ∙ c.into_list-list.ensures) at c.in-Err.ensures.refused) c.in_ok-turn-in-Err.ensures

pub refuse-requires-clause-state : goal.refuse-requires-clause-state
refuse-requires-clause-state c = state_later c.args.store.now c.a_table.new.store c.in-Err.ensures.later c.args.state.now c.requires.state
