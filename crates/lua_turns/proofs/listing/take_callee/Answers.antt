use Rattle.std.proofs.Common.{[], ◌∷◌, sym, subst}
use Rattle.lua_loops.specs.PageRunOutcome.{Goes}
use Rattle.lua_operators.specs.LuaSlotsPoints.{Gives}
use Rattle.lua_operators.specs.LuaStoreSeen.{seen}
use Rattle.lua_strides.specs.LuaStackDeclaredFocusFocusTheVariants as focus
use Rattle.lua_operators.specs.LuaStackDeclaredFrameFrameTheVariants as frame
use Rattle.lua_operators.specs.LuaStackDeclaredFrameInExpressionTheVariants as in_expression
use Rattle.lua_operators.specs.LuaStackOf.{ValuesOf}
use Rattle.lua_loops.specs.LuaStateSeen.{frames_of}
use Rattle.lua_loops.proofs.Beginning.{with_parts}
use Rattle.lua_turns.proofs.Following.{then_must}
use Rattle.lua_turns.proofs.Listed.{callee_taken}
use Rattle.lua_turns.proofs.listing.take_callee.Goals as goal

pub list-requires-clause-state : goal.list-requires-clause-state
list-requires-clause-state g c =
    let f = frame.Expression (in_expression.ArgumentsNext c.args.arguments c.args.line) in
    (callee_taken c.args.store.now c.args.state.now c.args.left.now c.args.turns.now c.args.arguments c.as_slice.result c.args.line c.args.called c.new-none.result c.requires.newest.0 c.swap_newest.new.frames c.requires.state c.requires.called c.requires.newest.1
    (c.swap_newest.ensures f c.requires.newest.0 c.requires.newest.1) c.as_slice.ensures c.new-none.ensures).state

pub list-requires-clause-before : goal.list-requires-clause-before
list-requires-clause-before g c = subst (ValuesOf c.args.store.now) (sym c.new-none.ensures) tt

pub returns : goal.returns
returns g c =
    let s = c.args.store.now in
    let m = c.args.state.now in
    let f = frame.Expression (in_expression.ArgumentsNext c.args.arguments c.args.line) in
    then_must s m (Gives (Goes (seen s.texts c.args.called ∷ [])) (frames_of s m)) c.args.left.now c.args.turns.now s (with_parts m c.swap_newest.new.frames m.regs m.functions) c.args.left.now c.args.turns.now (focus.Lists c.as_slice.result c.new-none.result)
    c.list.new.store c.list.new.state c.list.new.left c.list.new.turns c.list.result
    (callee_taken s m c.args.left.now c.args.turns.now c.args.arguments c.as_slice.result c.args.line c.args.called c.new-none.result c.requires.newest.0 c.swap_newest.new.frames c.requires.state c.requires.called c.requires.newest.1
    (c.swap_newest.ensures f c.requires.newest.0 c.requires.newest.1) c.as_slice.ensures c.new-none.ensures) c.list.ensures
