use Rattle.std.proofs.Common.{◌∙◌}
use Rattle.lua_modules.proofs.LuaStateStaying.{state_later}
use Rattle.lua_calls.proofs.Paying.{paid_end}
use Rattle.lua_calls.proofs.plain.plain.Goals as goal

pub returns : goal.returns
returns c =
    paid_end c.args.store.now c.once_call-answer.new.store c.end_plain.new.store c.args.state.now c.args.left.now c.once_call-answer.new.left c.end_plain.new.left c.args.line _ c.in_ok-turn.turn c.requires.state c.once_call-answer.ensures.later
    c.once_call-answer.result (rw (c.as_slice.ensures ∙ c.into_list-list.ensures) at c.once_call-answer.ensures.answer) c.in_ok-turn.ensures

pub end_plain-requires-clause-state : goal.end_plain-requires-clause-state
end_plain-requires-clause-state c = state_later c.args.store.now c.once_call-answer.new.store c.once_call-answer.ensures.later c.args.state.now c.requires.state

pub once_call-answer-requires-clause-names : goal.once_call-answer-requires-clause-names
once_call-answer-requires-clause-names c = rw c.names-names.ensures c.requires.state.scenes.names
