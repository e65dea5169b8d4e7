use Rattle.std.proofs.Common.{◌∙◌}
use Rattle.lua_calls.proofs.Framing.{with_scenes_of, framed_ends}
use Rattle.lua_calls.proofs.framed.framed.Goals as goal

pub end_framed-requires-clause-state : goal.end_framed-requires-clause-state
end_framed-requires-clause-state c = with_scenes_of c.args.store.now c.frame_call-answer.new.store c.args.state.now c.frame_call-answer.new.scenes c.requires.state c.frame_call-answer.ensures.later c.frame_call-answer.ensures.scenes

pub returns : goal.returns
returns c =
    framed_ends c.args.store.now c.frame_call-answer.new.store c.end_framed.new.store c.args.state.now c.end_framed.new.state c.frame_call-answer.new.scenes c.args.left.now c.frame_call-answer.new.left c.end_framed.new.left c.args.line _ c.in_ok-turn.turn
    c.requires.state c.frame_call-answer.ensures.later
    (with_scenes_of c.args.store.now c.frame_call-answer.new.store c.args.state.now c.frame_call-answer.new.scenes c.requires.state c.frame_call-answer.ensures.later c.frame_call-answer.ensures.scenes)
    c.frame_call-answer.result (rw (c.as_slice.ensures ∙ c.into_list-list.ensures) at c.frame_call-answer.ensures.answer) c.in_ok-turn.ensures
