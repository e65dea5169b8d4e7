use Rattle.std.proofs.Common.{◌+◌, ◌∷◌, refl}
use Rattle.lua_code.specs.Seen.{expression_seen}
use Rattle.lua_code.specs.LuaSlotsCode.{IndexC}
use Rattle.lua_operators.specs.LuaSlotsPoints.{Evals, KeyNext}
use Rattle.lua_strides.specs.LuaStackDeclaredFocusFocusTheVariants as focus
use Rattle.lua_operators.specs.LuaStackDeclaredFrameFrameTheVariants as frame
use Rattle.lua_operators.specs.LuaStackDeclaredFrameInExpressionTheVariants as in_expression
use Rattle.lua_loops.specs.LuaStateSeen.{frames_of}
use Rattle.lua_strides.specs.Next.{focus_of}
use Rattle.lua_strides.proofs.Paths.{with_frames, unpaid}
use Rattle.lua_turns.proofs.Following.{strides_then}
use Rattle.lua_turns.proofs.ReadFirst.{strode_first, waits_of}
use Rattle.lua_turns.proofs.operands.index.Goals as goal

pub returns-then-not-pay_nodes : goal.returns-then-not-pay_nodes
returns-then-not-pay_nodes g c = unpaid c.args.store.now c.args.state.now (1 + c.in-Some.object.nodes) c.args.left.now c.pay_nodes.new.left c.args.turns.now c.pay_nodes.new.turns c.if-not-pay_nodes.ensures

pub next_of-requires : goal.next_of-requires
next_of-requires g c =
    let got = rw c.in-Some.is at c.read.ensures in
    waits_of c.args.store.now c.args.state.now (frame.Expression (in_expression.IndexNow c.in-Some.object.value c.args.line)) c.push.new.self c.requires got.of c.in_ok-push-in-Some.ensures.ok

pub returns-in_ok-push-in-Some : goal.returns-in_ok-push-in-Some
returns-in_ok-push-in-Some g c =
    let s = c.args.store.now in
    let m = c.args.state.now in
    let r = c.in-Some.object in
    let got = rw c.in-Some.is at c.read.ensures in
    let a = expression_seen c.args.of.now in
    let b = expression_seen c.args.key.now in
    let p_code = IndexC a b c.args.line in
    let f = frame.Expression (in_expression.IndexNow r.value c.args.line) in
    let y = focus.Evaluates c.args.key in
    strides_then s m (Evals p_code (frames_of s m)) c.args.left.now c.args.turns.now s (with_frames m c.push.new.self) c.pay_nodes.new.left c.pay_nodes.new.turns y s (with_frames m c.push.new.self) c.next_of.new.left c.next_of.new.turns (focus_of c.next_of.result)
    (strode_first s m p_code a (KeyNext b c.args.line) r c.requires got refl y (f ∷ m.frames) c.push.new.self c.args.left.now c.pay_nodes.new.left c.args.turns.now c.pay_nodes.new.turns tt (got.of, c.requires.frames) c.in_ok-push-in-Some.ensures.ok refl c.if-not-pay_nodes.ensures) c.next_of.ensures

pub returns-in-None : goal.returns-in-None
returns-in-None g c = c.begin_index.ensures c.args.store.now c.requires
