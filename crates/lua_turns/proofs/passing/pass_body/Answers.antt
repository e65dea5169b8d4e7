use Rattle.std.proofs.Common.{refl, [], ◌∷◌}
use Rattle.lua_loops.specs.PageRunOutcome.{Jumps}
use Rattle.lua_code.specs.LuaMeaningActs.{Returned}
use Rattle.lua_operators.specs.LuaStoreSeen.{seen}
use Rattle.lua_strides.specs.LuaStackDeclaredFocusFocusTheVariants as focus
use Rattle.lua_operators.specs.LuaStackDeclaredFrameFrameTheVariants as frame
use Rattle.lua_operators.specs.LuaStackDeclaredFrameEndingTheVariants as ending
use Rattle.lua_strides.specs.LuaStackDeclaredValuesGivenTheVariants as given
use Rattle.lua_turns.proofs.Freely.{left_body}
use Rattle.lua_turns.proofs.passing.pass_body.Goals as goal

pub returns : goal.returns
returns c = λ s k of known.
    let f = frame.End ending.BodyEnd in
    left_body s c.args.state.now c.leave_call.new.state c.args.left.now c.leave_call.new.left k (Jumps (Returned (seen s.texts c.args.value ∷ []))) f c.requires.0 c.drop_newest.new.frames c.leave_function.new.regs c.leave_function.new.functions (focus.Gives (given.One c.args.value)) of c.requires.1
    (c.drop_newest.ensures f c.requires.0 c.requires.1) (c.leave_function.ensures.registers s of.regs) (c.leave_function.ensures.functions s of.functions) (known, tt)
    c.in_ok-leave_call.ensures.leaves c.in_ok-leave_call.ensures.same (λ world gs. refl) (c.leave_function.ensures.cuts s) (c.leave_function.ensures.rest s)
