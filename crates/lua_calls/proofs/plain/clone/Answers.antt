use Rattle.std.proofs.Common.{◌∙◌}
use Rattle.lua_modules.proofs.LuaStateStaying.{state_later}
use Rattle.lua_calls.proofs.Paying.{paid_end}
use Rattle.lua_calls.proofs.plain.clone.Goals as goal

pub returns : goal.returns
returns c =
    paid_end c.args.store.now c.mw_clone-answer.new.store c.end_plain.new.store c.args.state.now c.args.left.now c.mw_clone-answer.new.left c.end_plain.new.left c.args.line _ c.in_ok-turn.turn c.requires.state c.mw_clone-answer.ensures.later
    c.mw_clone-answer.result (rw (c.as_slice.ensures ∙ c.into_list-list.ensures) at c.mw_clone-answer.ensures.answer) c.in_ok-turn.ensures

pub end_plain-requires-clause-state : goal.end_plain-requires-clause-state
end_plain-requires-clause-state c = state_later c.args.store.now c.mw_clone-answer.new.store c.mw_clone-answer.ensures.later c.args.state.now c.requires.state
