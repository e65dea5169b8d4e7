use Rattle.std.proofs.Common.{refl, ap, [], ◌∷◌, List}
use Rattle.lua_loops.specs.PageRunOutcome.{Goes}
use Rattle.lua_code.specs.declared.expression.Expression.{Expression}
use Rattle.lua_code.specs.Seen.{expressions_seen}
use Rattle.lua_loops.specs.LuaSlotsMoves.{moves}
use Rattle.lua_operators.specs.LuaSlotsPoints.{MoreNext, Gives}
use Rattle.lua_operators.specs.LuaStoreSeen.{seen}
use Rattle.lua_strides.specs.LuaStackDeclaredFocusFocusTheVariants as focus
use Rattle.lua_operators.specs.LuaStackDeclaredFrameFrameTheVariants as frame
use Rattle.lua_operators.specs.LuaStackDeclaredFrameInExpressionTheVariants as in_expression
use Rattle.lua_strides.specs.LuaStackDeclaredValuesGivenTheVariants as given
use Rattle.lua_loops.specs.LuaStateSeen.{slots_of}
use Rattle.lua_turns.proofs.Freely.{popped_here}
use Rattle.lua_turns.proofs.giving.end_list.Goals as goal

pub returns : goal.returns
returns c = λ s l k of known.
    let m = c.args.state.now in
    let f = frame.Expression (in_expression.MoreNext c.args.rest []) in
    popped_here s m l k (Goes (seen s.texts c.args.value ∷ [])) f c.requires.newest.0 c.drop_newest.new.frames m.regs (focus.Gives (given.One c.args.value)) (slots_of s m) of c.requires.newest.1
    (c.drop_newest.ensures f c.requires.newest.0 c.requires.newest.1) of.regs (known, tt)
    (λ world gs. ap (λ (x : List Expression). moves world (Gives (Goes (seen s.texts c.args.value ∷ [])) (MoreNext (expressions_seen x) [] ∷ gs)) (slots_of s m)) c.requires.none) refl
