use Rattle.lua_loops.proofs.Left.{left_on}
use Rattle.lua_loops.proofs.leaving.leave_for.Goals as goal

pub returns : goal.returns
returns c = left_on c.args.store.now c.args.state.now c.leave_call.new.state c.args.left.now c.leave_call.new.left c.args.focus c.requires.state c.requires.focus c.in_ok-leave_call.ensures.leaves c.in_ok-leave_call.ensures.same
