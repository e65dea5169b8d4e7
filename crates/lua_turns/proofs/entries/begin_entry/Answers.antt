use Rattle.std.proofs.Common.{◌+◌, ap, sym, [], ◌∷◌, List, arith}
use Rattle.lua_code.specs.declared.expression.Expression.{Expression}
use Rattle.lua_code.specs.Seen.{expression_seen, expressions_seen, block_seen}
use Rattle.lua_code.specs.LuaSlotsCode.{AssignC, EntryC, MoreC, NoC, ThenC, CWorld}
use Rattle.lua_operators.specs.LuaSlotsPoints.{EntryS, MoreNext, AssignNow, StatsNext, Evals, Runs}
use Rattle.lua_operators.specs.LuaStoreSeen.{seen}
use Rattle.lua_strides.specs.LuaStackDeclaredFocusFocusTheVariants as focus
use Rattle.lua_operators.specs.LuaStackDeclaredFrameFrameTheVariants as frame
use Rattle.lua_operators.specs.LuaStackDeclaredFrameFoundTheVariants as found
use Rattle.lua_operators.specs.LuaStackDeclaredFrameInAssignmentTheVariants as in_assignment
use Rattle.lua_operators.specs.LuaStackDeclaredFrameInExpressionTheVariants as in_expression
use Rattle.lua_operators.specs.LuaStackDeclaredFrameInStatementTheVariants as in_statement
use Rattle.lua_loops.specs.LuaStateSeen.{slots_of, frames_of}
use Rattle.lua_loops.specs.LuaStateWorlds.{world_seen}
use Rattle.lua_strides.proofs.Paths.{ready, at_once, idle_here, strode, unpaid}
use Rattle.lua_turns.proofs.EntryBegun.{entry_begun}
use Rattle.lua_turns.proofs.entries.begin_entry.Goals as goal

pub returns-then-not-pay_nodes : goal.returns-then-not-pay_nodes
returns-then-not-pay_nodes g c =
    let s = c.args.store.now in
    unpaid s c.args.state.now (1 + (1 + (c.in-Some.found.0.nodes + c.in-Some.found.1.nodes))) c.args.left.now c.pay_nodes.new.left c.args.turns.now c.pay_nodes.new.turns c.if-not-pay_nodes.ensures

pub returns-in_ok-wait_to_assign-in-Some : goal.returns-in_ok-wait_to_assign-in-Some
returns-in_ok-wait_to_assign-in-Some g c =
    let k = rw c.in-Some.is at c.read_two.ensures in
    let s = c.args.store.now in
    let m = c.args.state.now in
    let world : CWorld = world_seen m.codes.world in
    let o = c.in-Some.found.0 in
    let key = c.in-Some.found.1 in
    let line = c.args.target.2 in
    let e = expression_seen c.args.value.now in
    let rest = block_seen c.args.rest.now in
    let n = 1 + (1 + (o.nodes + key.nodes)) in
    let target = EntryS (seen s.texts o.value) (seen s.texts key.value) line in
    let stats = frame.Statement (in_statement.StatsNext c.args.rest) in
    let outer = frame.Assignment (in_assignment.AssignNow (found.At o.value key.value line ∷ [])) in
    let inner = frame.Expression (in_expression.MoreNext c.args.none []) in
    let p = Runs (ThenC (AssignC (EntryC (expression_seen c.args.target.0.now) (expression_seen c.args.target.1.now) line ∷ []) (MoreC e NoC)) rest) (frames_of s m) in
    rw c.in_ok-wait_to_assign-in-Some.ensures
    (strode s m p n (focus.Evaluates c.args.value) (inner ∷ outer ∷ stats ∷ m.frames) c.args.left.now c.pay_nodes.new.left c.args.turns.now c.pay_nodes.new.turns
    (ready s m p n (focus.Evaluates c.args.value) (inner ∷ outer ∷ stats ∷ m.frames) (λ fs. Evals e (MoreNext NoC [] ∷ AssignNow (target ∷ []) ∷ StatsNext rest ∷ fs))
    c.requires.state tt (tt, (((k.0.of, k.1.of), tt), (tt, c.requires.state.frames))) (omega arith)
    (at_once world p (slots_of s m) n _ (slots_of s m) (entry_begun world (slots_of s m) (expression_seen c.args.target.0.now) (expression_seen c.args.target.1.now) e line (seen s.texts o.value) (seen s.texts key.value) o.nodes key.nodes k.0.is k.1.is rest (frames_of s m)))
    (ap (λ (es : List Expression). Evals e (MoreNext (expressions_seen es) [] ∷ AssignNow (target ∷ []) ∷ StatsNext rest ∷ frames_of s m)) (sym c.requires.none)))
    c.if-not-pay_nodes.ensures)

pub returns-in-None : goal.returns-in-None
returns-in-None g c = idle_here c.args.store.now c.args.state.now c.args.left.now c.args.turns.now
