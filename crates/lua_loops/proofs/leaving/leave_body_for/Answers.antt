use Rattle.std.proofs.lemmas.Result.{IfOk-weaker}
use Rattle.lua_state.specs.LuaSlotsPoints.{Exits, Now}
use Rattle.lua_state.specs.LuaStackSeen.{focus_seen}
use Rattle.lua_state.specs.Seen.{frames_of}
use Rattle.lua_loops.proofs.Left.{without_newest_of, after_function}
use Rattle.lua_loops.proofs.leaving.leave_body_for.Goals as goal

pub leave_for-requires-clause-state : goal.leave_for-requires-clause-state
leave_for-requires-clause-state c =
    without_newest_of c.args.store.now c.args.state.now c.leave_function.new.regs c.leave_function.new.functions c.requires.state
    (c.leave_function.ensures.registers c.args.store.now c.requires.state.regs) (c.leave_function.ensures.functions c.args.store.now c.requires.state.functions)

pub returns : goal.returns
returns c =
    IfOk-weaker c.leave_for.result _ _ (λ r e. after_function c.args.store.now c.args.store.now c.args.state.now c.leave_for.new.state c.leave_function.new.regs c.leave_function.new.functions c.args.left.now c.leave_for.new.left
    (λ x. Exits (Now (focus_seen c.args.store.now c.args.focus (frames_of c.args.store.now c.args.state.now)) x)) _
    (c.leave_function.ensures.cuts c.args.store.now) (c.leave_function.ensures.rest c.args.store.now) e) c.leave_for.ensures
