use Rattle.std.proofs.Common.{refl, [], ◌∷◌}
use Rattle.lua_loops.specs.PageRunOutcome.{Goes}
use Rattle.lua_operators.specs.LuaStoreSeen.{seen}
use Rattle.lua_strides.specs.LuaStackDeclaredFocusFocusTheVariants as focus
use Rattle.lua_operators.specs.LuaStackDeclaredFrameSetting.{Setting}
use Rattle.lua_operators.specs.LuaStackDeclaredFrameFrameTheVariants as frame
use Rattle.lua_operators.specs.LuaStackDeclaredFrameInAssignmentTheVariants as in_assignment
use Rattle.lua_loops.specs.LuaStateSeen.{slots_of}
use Rattle.lua_turns.proofs.Freely.{newest_of, popped_here}
use Rattle.lua_turns.proofs.giving.assign.Goals as goal

pub returns : goal.returns
returns c = λ s l k of known.
    let m = c.args.state.now in
    let f = frame.Assignment (in_assignment.AssignNow (c.args.target ∷ [])) in
    let one : Setting = record { target = c.args.target; value = c.args.value } in
    popped_here s m l k (Goes (seen s.texts c.args.value ∷ [])) f c.requires.0 c.drop_newest.new.frames m.regs (focus.Sets (one ∷ [])) (slots_of s m) of c.requires.1
    (c.drop_newest.ensures f c.requires.0 c.requires.1) of.regs (((newest_of s m.frames c.requires.0 f c.requires.1 of.frames).0, known), tt) (λ world gs. refl) refl
