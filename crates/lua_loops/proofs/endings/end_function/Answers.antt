use Rattle.std.proofs.lemmas.Result.{IfOk-weaker}
use Rattle.std.proofs.Common.{ap}
use Rattle.lua_state.specs.LuaSlotsPoints.{Point, Exits, Now}
use Rattle.lua_state.specs.LuaSlotsCalls.{left_function}
use Rattle.lua_state.specs.Seen.{slots_of, frames_of}
use Rattle.lua_loops.proofs.Parts.{same_move}
use Rattle.lua_loops.proofs.endings.end_function.Goals as goal

pub leave_body_for-requires-clause-focus : goal.leave_body_for-requires-clause-focus
leave_body_for-requires-clause-focus c = c.nothing-focus.ensures.of c.args.store.now

pub returns : goal.returns
returns c =
    IfOk-weaker c.leave_body_for.result _ _ (λ r e. same_move c.args.store.now c.args.store.now c.args.state.now c.leave_body_for.new.state c.args.left.now c.leave_body_for.new.left _ _ _
    (ap (λ (p : Point). Exits (Now p (left_function (slots_of c.args.store.now c.args.state.now)))) (c.nothing-focus.ensures.point c.args.store.now (frames_of c.args.store.now c.args.state.now))) e) c.leave_body_for.ensures
