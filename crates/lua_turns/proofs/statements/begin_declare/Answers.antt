use Rattle.std.proofs.Common.{◌∙◌, ◌∷◌, [], refl, ap, sym, List}
use Rattle.lua_code.specs.declared.expression.Expression.{Expression}
use Rattle.lua_code.specs.Seen.{block_seen, expression_seen, expressions_seen}
use Rattle.lua_code.specs.LuaSlotsCode.{DeclareC, MoreC, NoC}
use Rattle.lua_operators.specs.LuaSlotsPoints.{DeclareNow, Evals, Lists, MoreNext, Runs}
use Rattle.lua_strides.proofs.LuaInPlaceStatements.{free}
use Rattle.lua_strides.specs.LuaStackDeclaredFocusFocusTheVariants as focus
use Rattle.lua_operators.specs.LuaStackDeclaredFrameFrameTheVariants as frame
use Rattle.lua_strides.specs.LuaStackDeclaredFrameFrame.{Frame}
use Rattle.lua_operators.specs.LuaStackDeclaredFrameInExpressionTheVariants as in_expression
use Rattle.lua_operators.specs.LuaStackDeclaredFrameInStatementTheVariants as in_statement
use Rattle.lua_loops.specs.LuaStateSeen.{frames_of, slots_of}
use Rattle.lua_loops.specs.LuaStateWorlds.{world_seen}
use Rattle.lua_strides.proofs.Paths.{unpaid}
use Rattle.lua_turns.proofs.Begun.{strode_begun}
use Rattle.lua_turns.proofs.statements.begin_declare.Goals as goal

pub returns-then-not-pay_nodes : goal.returns-then-not-pay_nodes
returns-then-not-pay_nodes g c = λ s of. unpaid s c.args.state.now 1 c.args.left.now c.pay_nodes.new.left c.args.turns.now c.pay_nodes.new.turns c.if-not-pay_nodes.ensures

pub returns : goal.returns
returns g c = λ s of.
    let m = c.args.state.now in
    let e = expression_seen c.args.value.now in
    let rest = block_seen c.args.rest.now in
    let fs = frames_of s m in
    let outer = frame.Statement (in_statement.DeclareNow c.args.flags c.args.rest) in
    let inner = frame.Expression (in_expression.MoreNext c.args.none []) in
    let p = Runs (DeclareC c.args.flags.now (MoreC e NoC) rest) fs in
    let q = Lists (MoreC e NoC) [] (DeclareNow c.args.flags.now rest ∷ fs) in
    let r = Evals e (MoreNext NoC [] ∷ DeclareNow c.args.flags.now rest ∷ fs) in
    rw (c.in_ok-wait_for_one.ensures ∙ ap (λ (x : List Frame). inner ∷ x) c.in_ok-push.ensures.ok)
    (strode_begun s m p q r (focus.Evaluates c.args.value) (inner ∷ outer ∷ m.frames) c.args.left.now c.pay_nodes.new.left c.args.turns.now c.pay_nodes.new.turns of (tt, (tt, of.frames)) tt c.if-not-pay_nodes.ensures
    refl (free (world_seen m.codes.world) q (slots_of s m) r (slots_of s m) refl)
    (ap (λ (es : List Expression). Evals e (MoreNext (expressions_seen es) [] ∷ DeclareNow c.args.flags.now rest ∷ fs)) (sym c.requires)))
