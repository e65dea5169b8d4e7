use Rattle.std.proofs.Common.{◌∙◌, ◌∷◌, [], refl, ap, sym, List}
use Rattle.lua_code.specs.declared.expression.Expression.{Expression}
use Rattle.lua_code.specs.Seen.{expression_seen, expressions_seen, block_seen}
use Rattle.lua_code.specs.LuaSlotsCode.{MoreC, NoC, ReturnC, ThenC}
use Rattle.lua_operators.specs.LuaSlotsPoints.{MoreNext, ReturnNow, StatsNext, Evals, Lists, Runs}
use Rattle.lua_strides.proofs.LuaInPlaceStatements.{free}
use Rattle.lua_strides.specs.LuaStackDeclaredFocusFocusTheVariants as focus
use Rattle.lua_strides.specs.LuaStackDeclaredFrameFrame.{Frame}
use Rattle.lua_operators.specs.LuaStackDeclaredFrameFrameTheVariants as frame
use Rattle.lua_operators.specs.LuaStackDeclaredFrameInExpressionTheVariants as in_expression
use Rattle.lua_operators.specs.LuaStackDeclaredFrameInStatementTheVariants as in_statement
use Rattle.lua_loops.specs.LuaStateSeen.{slots_of, frames_of}
use Rattle.lua_loops.specs.LuaStateWorlds.{world_seen}
use Rattle.lua_strides.proofs.Paths.{unpaid}
use Rattle.lua_turns.proofs.Begun.{strode_begun}
use Rattle.lua_turns.proofs.beginning.begin_return.Goals as goal

pub returns-then-not-pay_nodes : goal.returns-then-not-pay_nodes
returns-then-not-pay_nodes g c = λ s of. unpaid s c.args.state.now 1 c.args.left.now c.pay_nodes.new.left c.args.turns.now c.pay_nodes.new.turns c.if-not-pay_nodes.ensures

pub returns : goal.returns
returns g c = λ s of.
    let m = c.args.state.now in
    let e = expression_seen c.args.value.now in
    let rest = block_seen c.args.rest.now in
    let fs = frames_of s m in
    let stats = frame.Statement (in_statement.StatsNext c.args.rest) in
    let outer = frame.Statement in_statement.ReturnNow in
    let inner = frame.Expression (in_expression.MoreNext c.args.none []) in
    let p = Runs (ThenC (ReturnC (MoreC e NoC)) rest) fs in
    let mid = Lists (MoreC e NoC) [] (ReturnNow ∷ StatsNext rest ∷ fs) in
    let q = Evals e (MoreNext NoC [] ∷ ReturnNow ∷ StatsNext rest ∷ fs) in
    let made = frame.Expression (in_expression.MoreNext c.args.none c.new-values.result) in
    rw (c.in_ok-push-3.ensures.ok ∙ ap (λ (x : List Frame). made ∷ x) (c.in_ok-push-2.ensures.ok ∙ ap (λ (x : List Frame). outer ∷ x) c.in_ok-push.ensures.ok), c.new-values.ensures)
    (strode_begun s m p mid q (focus.Evaluates c.args.value) (inner ∷ outer ∷ stats ∷ m.frames) c.args.left.now c.pay_nodes.new.left c.args.turns.now c.pay_nodes.new.turns of (tt, (tt, (tt, of.frames))) tt c.if-not-pay_nodes.ensures
    refl (free (world_seen m.codes.world) mid (slots_of s m) q (slots_of s m) refl)
    (ap (λ (es : List Expression). Evals e (MoreNext (expressions_seen es) [] ∷ ReturnNow ∷ StatsNext rest ∷ fs)) (sym c.requires)))
