use Rattle.std.proofs.Common.{◌+◌, refl, ◌∷◌, arith}
use Rattle.lua_in_place.specs.PageRunOutcome.{Goes}
use Rattle.lua_code.specs.Seen.{expression_seen, expressions_seen}
use Rattle.lua_code.specs.LuaSlotsCode.{CallC, CWorld}
use Rattle.lua_state.specs.LuaSlotsPoints.{CallNow, Evals, Gives}
use Rattle.lua_in_place.proofs.Statements.{called}
use Rattle.lua_state.specs.LuaStoreSeen.{seen}
use Rattle.lua_state.specs.LuaStackDeclaredFocusFocusTheVariants as focus
use Rattle.lua_state.specs.LuaStackDeclaredFrameFrameTheVariants as frame
use Rattle.lua_state.specs.LuaStackDeclaredFrameInExpressionTheVariants as in_expression
use Rattle.lua_state.specs.LuaStackDeclaredValuesGivenTheVariants as given
use Rattle.lua_state.specs.LuaStackSeen.{values_seen}
use Rattle.lua_state.specs.Seen.{slots_of, frames_of}
use Rattle.lua_state.specs.Worlds.{world_seen}
use Rattle.lua_strides.proofs.Paths.{ready, at_once, idle_here, unpaid}
use Rattle.lua_strides.proofs.calls.call.Goals as goal

pub returns-then-not-pay_nodes : goal.returns-then-not-pay_nodes
returns-then-not-pay_nodes g c = unpaid c.args.store.now c.args.state.now (1 + (c.in-Some.called.nodes + c.in-Some.arguments.nodes)) c.args.left.now c.pay_nodes.new.left c.args.turns.now c.pay_nodes.new.turns c.if-not-pay_nodes.ensures

pub returns-else-not-pay_nodes : goal.returns-else-not-pay_nodes
returns-else-not-pay_nodes g c =
    let k = rw c.in-Some.is at c.in_ok-known.ensures in
    let s = c.args.store.now in
    let m = c.args.state.now in
    let world : CWorld = world_seen m.codes.world in
    let f = c.in-Some.called in
    let args = c.in-Some.arguments in
    let n = 1 + (f.nodes + args.nodes) in
    c.wait_for.ensures s (Evals (CallC (expression_seen c.args.called.now) (expressions_seen c.args.arguments.now) c.args.line) (frames_of s m)) n c.args.left.now c.pay_nodes.new.left c.args.turns.now c.pay_nodes.new.turns
    (ready s m _ n (focus.Gives (given.Many args.values)) (frame.Expression (in_expression.CallNow f.value c.args.line) ∷ m.frames) (λ fs. Gives (Goes (values_seen s.texts args.values)) (CallNow (seen s.texts f.value) c.args.line ∷ fs))
    c.requires k.1.of (k.0.of, c.requires.frames) (omega arith)
    (at_once world _ (slots_of s m) n _ (slots_of s m) (called world (slots_of s m) (expression_seen c.args.called.now) (expressions_seen c.args.arguments.now) c.args.line (seen s.texts f.value) (values_seen s.texts args.values) f.nodes args.nodes k.0.is k.1.is (frames_of s m))) refl) c.if-not-pay_nodes.ensures

pub returns-in-None : goal.returns-in-None
returns-in-None g c = idle_here c.args.store.now c.args.state.now c.args.left.now c.args.turns.now
