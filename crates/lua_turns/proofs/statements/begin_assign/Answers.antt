use Rattle.std.proofs.Common.{◌∷◌, [], refl, ap, sym, List}
use Rattle.lua_code.specs.declared.expression.Expression.{Expression}
use Rattle.lua_code.specs.Seen.{block_seen, expression_seen, expressions_seen}
use Rattle.lua_code.specs.LuaSlotsCode.{AssignC, MoreC, NoC, ThenC}
use Rattle.lua_operators.specs.LuaSlotsPoints.{AssignNow, Evals, Finds, MoreNext, Runs, StatsNext}
use Rattle.lua_strides.specs.LuaStackDeclaredFocusFocusTheVariants as focus
use Rattle.lua_operators.specs.LuaStackDeclaredFrameFrameTheVariants as frame
use Rattle.lua_operators.specs.LuaStackDeclaredFrameInAssignmentTheVariants as in_assignment
use Rattle.lua_operators.specs.LuaStackDeclaredFrameInExpressionTheVariants as in_expression
use Rattle.lua_operators.specs.LuaStackDeclaredFrameInStatementTheVariants as in_statement
use Rattle.lua_operators.specs.LuaStackSeen.{found_seen}
use Rattle.lua_loops.specs.LuaStateSeen.{frames_of, slots_of}
use Rattle.lua_loops.specs.LuaStateWorlds.{world_seen}
use Rattle.lua_strides.proofs.Paths.{unpaid}
use Rattle.lua_turns.proofs.Begun.{assigning, strode_begun}
use Rattle.lua_turns.proofs.statements.begin_assign.Goals as goal

pub returns-then-not-pay_nodes : goal.returns-then-not-pay_nodes
returns-then-not-pay_nodes g c = λ s t of known found. unpaid s c.args.state.now 1 c.args.left.now c.pay_nodes.new.left c.args.turns.now c.pay_nodes.new.turns c.if-not-pay_nodes.ensures

pub returns : goal.returns
returns g c = λ s t of known found.
    let m = c.args.state.now in
    let e = expression_seen c.args.value.now in
    let rest = block_seen c.args.rest.now in
    let fs = frames_of s m in
    let at = found_seen s.texts c.args.target in
    let stats = frame.Statement (in_statement.StatsNext c.args.rest) in
    let outer = frame.Assignment (in_assignment.AssignNow (c.args.target ∷ [])) in
    let inner = frame.Expression (in_expression.MoreNext c.args.none []) in
    let p = Runs (ThenC (AssignC (t ∷ []) (MoreC e NoC)) rest) fs in
    let q = Finds (t ∷ []) [] (MoreC e NoC) (StatsNext rest ∷ fs) in
    let r = Evals e (MoreNext NoC [] ∷ AssignNow (at ∷ []) ∷ StatsNext rest ∷ fs) in
    rw c.in_ok-wait_to_assign.ensures
    (strode_begun s m p q r (focus.Evaluates c.args.value) (inner ∷ outer ∷ stats ∷ m.frames) c.args.left.now c.pay_nodes.new.left c.args.turns.now c.pay_nodes.new.turns of (tt, ((known, tt), (tt, of.frames))) tt c.if-not-pay_nodes.ensures
    refl (assigning (world_seen m.codes.world) t at e (StatsNext rest ∷ fs) (slots_of s m) found)
    (ap (λ (es : List Expression). Evals e (MoreNext (expressions_seen es) [] ∷ AssignNow (at ∷ []) ∷ StatsNext rest ∷ fs)) (sym c.requires)))
