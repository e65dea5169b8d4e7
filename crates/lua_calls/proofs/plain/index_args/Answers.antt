use Rattle.std.proofs.Common.{◌∙◌}
use Rattle.lua_tables.proofs.LuaBasicFound.{for_nothing}
use Rattle.lua_modules.proofs.LuaStateStaying.{state_later}
use Rattle.lua_calls.proofs.Paying.{paid_end}
use Rattle.lua_calls.proofs.plain.index_args.Goals as goal

pub returns : goal.returns
returns c =
    paid_end c.args.store.now c.args_index-answer.new.store c.end_plain.new.store c.args.state.now c.args.left.now c.args.left.now c.end_plain.new.left c.args.line _ c.in_ok-turn.turn c.requires.state c.args_index-answer.ensures.later
    c.args_index-answer.result
    (for_nothing _ c.args.store.now c.args_index-answer.new.store c.args.left.now c.args_index-answer.result (rw (c.as_slice.ensures ∙ c.into_list-list.ensures) at c.args_index-answer.ensures.answer)) c.in_ok-turn.ensures

pub end_plain-requires-clause-state : goal.end_plain-requires-clause-state
end_plain-requires-clause-state c = state_later c.args.store.now c.args_index-answer.new.store c.args_index-answer.ensures.later c.args.state.now c.requires.state
