use Rattle.std.proofs.Common.{rules, ◌∙◌, ◌+◌, ◌∷◌, [], List, ap, refl}
use Rattle.lua_code.specs.LuaSlotsCode.{UnaryC}
use Rattle.lua_turns.specs.LuaSlotsPoints.{Evals}
use Rattle.lua_turns.specs.LuaStackDeclaredFocusFocusTheVariants as focus
use Rattle.lua_turns.specs.LuaStackDeclaredFrameFrame.{Frame}
use Rattle.lua_turns.specs.LuaStackDeclaredFrameFrameTheVariants as frame
use Rattle.lua_turns.specs.LuaStackDeclaredFrameInExpressionTheVariants as in_expression
use Rattle.lua_turns.specs.LuaStackDeclaredValuesGivenTheVariants as given
use Rattle.lua_turns.specs.LuaStateSeen.{frames_of}
use Rattle.lua_turns.specs.LuaStridesNext.{focus_of}
use Rattle.lua_rows.proofs.Ended.{begun_turns, frames_same, handed_above, operated, turned_goes}
use Rattle.lua_rows.proofs.Leading.{operand_leads}
use Rattle.lua_rows.proofs.operand.apply.Goals as goal

pub returns-in-Some : goal.returns-in-Some
returns-in-Some g c = λ e ready.
    let s = c.args.store.now in
    let m = c.args.state.now in
    let call = c.args.call in
    let t = c.make_call.new.store in
    let v = c.in-Some-GaveOne.value in
    let made = rw (c.in-Some-GaveOne.is, c.in-Some-GaveOne.field-0-is) at c.in_ok-made.ensures in
    let left = c.in_ok-leave_call-in-Some-GaveOne.ensures in
    let of = rw c.in-Some.is at c.result_of.ensures.of in
    operated s m call.callee c.args.arguments.now (1 + call.nodes) c.args.left.now c.args.turns.now t c.make_call.new.state c.make_call.new.left c.make_call.new.turns (v ∷ []) c.leave_call.new.state c.leave_call.new.left made left.leaves left.same
    (Evals (UnaryC c.args.op e c.args.line) (frames_of s m)) call.line c.args.line c.args.op v c.in-Some.given refl (rw c.in-Some.is at c.result_of.ensures.value) (of t) (operand_leads s m e c.args.arguments.now call c.requires.state ready c.args.op c.args.line)

pub returns-in_ok-push-in-None-result_of : goal.returns-in_ok-push-in-None-result_of
returns-in_ok-push-in-None-result_of g c = λ e ready.
    let s = c.args.store.now in
    let m = c.args.state.now in
    let call = c.args.call in
    let v = c.in-Some-GaveOne.value in
    let f = frame.Expression (in_expression.UnaryNow c.args.op c.args.line) in
    let made = rw (c.in-Some-GaveOne.is, c.in-Some-GaveOne.field-0-is) at c.in_ok-made.ensures in
    let left = c.in_ok-leave_call-in-Some-GaveOne.ensures in
    handed_above s m call.callee c.args.arguments.now (1 + call.nodes) c.args.left.now c.args.turns.now c.make_call.new.store c.make_call.new.state c.make_call.new.left c.make_call.new.turns (v ∷ []) c.leave_call.new.state c.leave_call.new.left
    made left.leaves left.same (Evals (UnaryC c.args.op e c.args.line) (frames_of s m)) call.line f c.push.new.self (focus.Gives (given.One v)) (operand_leads s m e c.args.arguments.now call c.requires.state ready c.args.op c.args.line)
    (c.in_ok-push-in-None-result_of.ensures.ok ∙ ap (λ (x : Frame). x ∷ c.leave_call.new.state.frames) c.operator_frame.ensures) made.of (λ fs. refl)

pub returns-in_ok-push-in-Some-Gave : goal.returns-in_ok-push-in-Some-Gave
returns-in_ok-push-in-Some-Gave g c = λ e ready.
    let s = c.args.store.now in
    let m = c.args.state.now in
    let call = c.args.call in
    let t = c.make_call.new.store in
    let n = c.leave_call-in-Some-Gave.new.state in
    let f = frame.Expression (in_expression.UnaryNow c.args.op c.args.line) in
    let made = rw (c.in-Some-Gave.is, c.in-Some-Gave.field-0-is) at c.in_ok-made.ensures in
    let left = c.in_ok-leave_call-in-Some-Gave.ensures in
    handed_above s m call.callee c.args.arguments.now (1 + call.nodes) c.args.left.now c.args.turns.now t c.make_call.new.state c.make_call.new.left c.make_call.new.turns c.in-Some-Gave.values n c.leave_call-in-Some-Gave.new.left
    made left.leaves left.same (Evals (UnaryC c.args.op e c.args.line) (frames_of s m)) call.line f c.push-in-Some-Gave.new.self (focus_of c.next_of.result) (operand_leads s m e c.args.arguments.now call c.requires.state ready c.args.op c.args.line)
    (c.in_ok-push-in-Some-Gave.ensures.ok ∙ ap (λ (x : Frame). x ∷ n.frames) c.operator_frame-in-Some-Gave.ensures) (c.next_of.ensures.of t made.of) (c.next_of.ensures.gives t)

pub returns-in_ok-turn-in-Some-Stopped : goal.returns-in_ok-turn-in-Some-Stopped
returns-in_ok-turn-in-Some-Stopped g c = λ e ready.
    let s = c.args.store.now in
    let m = c.args.state.now in
    let call = c.args.call in
    let t = c.make_call.new.store in
    let n = c.make_call.new.state in
    let l = c.args.left.now in
    let k = c.args.turns.now in
    let i = c.make_call.new.left in
    let j = c.make_call.new.turns in
    let b = c.in-Some-Stopped.begun.value in
    let args = c.args.arguments.now in
    let f = frame.Expression (in_expression.UnaryNow c.args.op c.args.line) in
    let p = Evals (UnaryC c.args.op e c.args.line) (frames_of s m) in
    let made = rw (c.in-Some-Stopped.is, c.in-Some-Stopped.field-0-is) at c.in_ok-made.ensures in
    turned_goes s m p l k c.go_above.new.store c.go_above.new.state c.go_above.new.left j c.in_ok-turn-in-Some-Stopped.turn c.turned.result
    (begun_turns s m call.callee args (1 + call.nodes) l k t n i j b p call.line (f ∷ m.frames) c.push-in-Some-Stopped.new.self made (operand_leads s m e args call c.requires.state ready c.args.op c.args.line)
    (c.in_ok-push-in-Some-Stopped.ensures.ok ∙ ap (λ (x : Frame). x ∷ n.frames) c.operator_frame-in-Some-Stopped.ensures ∙ ap (λ (fs : List Frame). f ∷ fs) (frames_same s m call.callee args (1 + call.nodes) l k t n i j b made))
    c.go_above.new.store c.go_above.new.state c.go_above.new.left c.in_ok-turn-in-Some-Stopped.turn (search rules))
    c.turned.ensures
