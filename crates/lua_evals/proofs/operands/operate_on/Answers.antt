use Rattle.std.proofs.Common.{refl}
use Rattle.lua_state.specs.Seen.{slots_of}
use Rattle.lua_state.proofs.Staying.{state_later}
use Rattle.lua_evals.proofs.Ends.{with_frames_of, paid_arm}
use Rattle.lua_evals.proofs.operands.operate_on.Goals as goal

pub finish_paid-requires-clause-state : goal.finish_paid-requires-clause-state
finish_paid-requires-clause-state c =
    with_frames_of c.operate.new.store c.args.state.now c.operate.new.frames (state_later c.args.store.now c.operate.new.store c.in_ok-paid.ensures.later c.args.state.now c.requires.state) c.in_ok-paid.ensures.of.1

pub returns : goal.returns
returns c =
    paid_arm c.args.store.now c.operate.new.store c.finish_paid.new.store c.args.state.now c.operate.new.frames c.args.left.now c.operate.new.left c.finish_paid.new.left _ c.in_ok-paid.paid _ c.requires.state
    c.in_ok-paid.ensures.later c.in_ok-paid.ensures.still (λ told i. c.in_ok-paid.ensures.move_ (slots_of c.args.store.now c.args.state.now) _ _ refl)
    c.in_ok-turn.ensures.state c.in_ok-turn.ensures.later c.in_ok-turn.ensures.heap c.in_ok-turn.ensures.makes
