use Rattle.std.proofs.lemmas.Result.{IfOk-weaker}
use Rattle.std.proofs.Common.{sym, ap}
use Rattle.lua_state.specs.LuaSlotsPoints.{Exits}
use Rattle.lua_state.specs.LuaSlotsCalls.{left_function}
use Rattle.lua_state.specs.Seen.{slots_of, frames_of}
use Rattle.lua_loops.proofs.Parts.{same_move}
use Rattle.lua_loops.proofs.passing.pass_body.Goals as goal

pub leave_body_for-requires-clause-focus : goal.leave_body_for-requires-clause-focus
leave_body_for-requires-clause-focus c = c.after_body-focus.ensures.of c.args.store.now c.requires.jump

pub returns : goal.returns
returns c =
    IfOk-weaker c.leave_body_for.result _ _ (λ r e. same_move c.args.store.now c.args.store.now c.args.state.now c.leave_body_for.new.state c.args.left.now c.leave_body_for.new.left _ _ _
    (ap Exits (sym (c.after_body-focus.ensures.move_ c.args.store.now (frames_of c.args.store.now c.args.state.now) (left_function (slots_of c.args.store.now c.args.state.now))))) e) c.leave_body_for.ensures
