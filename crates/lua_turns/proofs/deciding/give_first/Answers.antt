use Rattle.std.proofs.Common.{refl, [], ◌∷◌}
use Rattle.lua_loops.specs.PageRunOutcome.{Goes}
use Rattle.lua_operators.specs.LuaStoreSeen.{seen}
use Rattle.lua_strides.specs.LuaStackDeclaredFocusFocusTheVariants as focus
use Rattle.lua_operators.specs.LuaStackDeclaredFrameFrameTheVariants as frame
use Rattle.lua_operators.specs.LuaStackDeclaredFrameInExpressionTheVariants as in_expression
use Rattle.lua_strides.specs.LuaStackDeclaredValuesGivenTheVariants as given
use Rattle.lua_loops.specs.LuaStateSeen.{slots_of}
use Rattle.lua_turns.proofs.Freely.{popped_here}
use Rattle.lua_turns.proofs.deciding.give_first.Goals as goal

pub returns : goal.returns
returns c = λ s l k of known.
    let m = c.args.state.now in
    let f = frame.Expression in_expression.First in
    popped_here s m l k (Goes (seen s.texts c.args.value ∷ [])) f c.requires.0 c.drop_newest.new.frames m.regs (focus.Gives (given.One c.args.value)) (slots_of s m) of c.requires.1
    (c.drop_newest.ensures f c.requires.0 c.requires.1) of.regs (known, tt) (λ world gs. refl) refl
