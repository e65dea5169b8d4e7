use Rattle.std.proofs.Common.{refl, [], ◌∷◌}
use Rattle.lua_loops.specs.PageRunOutcome.{Goes}
use Rattle.lua_operators.specs.LuaSlotsPoints.{Gives}
use Rattle.lua_operators.specs.LuaStoreSeen.{seen}
use Rattle.lua_strides.specs.LuaStackDeclaredFocusFocusTheVariants as focus
use Rattle.lua_operators.specs.LuaStackDeclaredFrameFrameTheVariants as frame
use Rattle.lua_operators.specs.LuaStackDeclaredFrameInExpressionTheVariants as in_expression
use Rattle.lua_loops.specs.LuaStateSeen.{frames_of}
use Rattle.lua_strides.specs.Next.{focus_of}
use Rattle.lua_loops.proofs.Beginning.{with_parts}
use Rattle.lua_turns.proofs.Following.{follows_then}
use Rattle.lua_turns.proofs.Freely.{swapped, swapped_of}
use Rattle.lua_turns.proofs.giving.take_operand.Goals as goal

pub next_of-requires : goal.next_of-requires
next_of-requires g c =
    let f = frame.Expression (in_expression.OperandNext c.args.op c.args.b c.args.line) in
    swapped_of c.args.store.now c.args.state.now f (frame.Expression (in_expression.OperateNow c.args.op c.args.value c.args.line)) c.requires.newest.0 c.swap_newest.new.frames c.requires.state c.requires.newest.1 (c.swap_newest.ensures f c.requires.newest.0 c.requires.newest.1) c.requires.value

pub returns : goal.returns
returns g c =
    let s = c.args.store.now in
    let m = c.args.state.now in
    let f = frame.Expression (in_expression.OperandNext c.args.op c.args.b c.args.line) in
    let held = with_parts m c.swap_newest.new.frames m.regs m.functions in
    follows_then s m (Gives (Goes (seen s.texts c.args.value ∷ [])) (frames_of s m)) c.args.left.now c.args.turns.now s held c.args.left.now c.args.turns.now (focus.Evaluates c.args.b)
    s held c.next_of.new.left c.next_of.new.turns (focus_of c.next_of.result)
    (swapped s m c.args.left.now c.args.turns.now (Goes (seen s.texts c.args.value ∷ [])) f (frame.Expression (in_expression.OperateNow c.args.op c.args.value c.args.line)) c.requires.newest.0 c.swap_newest.new.frames (focus.Evaluates c.args.b) c.requires.state c.requires.newest.1
    (c.swap_newest.ensures f c.requires.newest.0 c.requires.newest.1) c.requires.value tt (λ world gs. refl)) c.next_of.ensures
