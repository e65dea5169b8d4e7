use Rattle.std.proofs.Common.{◌≡◌, ◌∙◌, ◌∷◌, ◌++◌, [], refl, sym, ap, subst, List, Some}
use Rattle.lua_loops.specs.PageRunOutcome.{Goes}
use Rattle.lua_code.specs.declared.expression.Expression.{Expression}
use Rattle.lua_code.specs.Seen.{expressions_seen}
use Rattle.lua_operators.specs.LuaSlotsPoints.{Gives, Lists}
use Rattle.lua_operators.specs.LuaStoreDeclaredValueValue.{Value}
use Rattle.lua_operators.specs.LuaStoreSeen.{seen, text_at}
use Rattle.lua_strides.specs.LuaStackDeclaredFocusFocusTheVariants as focus
use Rattle.lua_operators.specs.LuaStackDeclaredFrameFrameTheVariants as frame
use Rattle.lua_operators.specs.LuaStackDeclaredFrameInExpressionTheVariants as in_expression
use Rattle.lua_operators.specs.LuaStackOf.{ValuesOf}
use Rattle.lua_operators.specs.LuaStackSeen.{values_seen}
use Rattle.lua_loops.specs.LuaStateSeen.{slots_of, frames_of}
use Rattle.lua_strides.proofs.Paths.{idle_here, with_frames}
use Rattle.lua_turns.proofs.Following.{must_may, then_must}
use Rattle.lua_turns.proofs.Freely.{newest_of}
use Rattle.lua_turns.proofs.Named.{method_follows, not_paid}
use Rattle.lua_turns.proofs.methods.take_object.Goals as goal

pub method_of-requires-clause-key : goal.method_of-requires-clause-key
method_of-requires-clause-key g c =
    newest_of c.args.store.now c.args.state.now.frames c.requires.newest.0 (frame.Expression (in_expression.MethodNext c.args.name c.args.arguments c.args.line)) c.requires.newest.1 c.requires.state.frames

pub returns-then-not-pay_link : goal.returns-then-not-pay_link
returns-then-not-pay_link g c = not_paid c.args.store.now c.args.state.now c.in-Some.method.linked c.args.left.now c.pay_link.new.left c.args.turns.now c.if-not-pay_link.ensures

pub list-requires-clause-state : goal.list-requires-clause-state
list-requires-clause-state g c =
    let s = c.args.store.now in
    let m = c.args.state.now in
    let x = slots_of s m in
    let o = seen s.texts c.args.object in
    let v = seen s.texts c.in-Some.method.value in
    let f = frame.Expression (in_expression.MethodNext c.args.name c.args.arguments c.args.line) in
    let g2 = frame.Expression (in_expression.CallNow c.in-Some.method.value c.args.line) in
    let y = focus.Lists c.as_slice.result c.add.new.self in
    let one : c.add.new.self ≡ c.args.object ∷ [] = c.in_ok-add-in-Some.ensures.ok ∙ ap (λ (vs : List Value). vs ++ c.args.object ∷ []) c.new-before.ensures in
    let before : ValuesOf s c.add.new.self = subst (ValuesOf s) (sym one) (c.requires.object, tt) in
    let known = rw c.in-Some.is at c.method_of.ensures.of in
    let first = method_follows s m c.in-Some.method.linked c.args.left.now c.pay_link.new.left c.args.turns.now f g2 c.requires.newest.0 c.swap_newest.new.frames y (text_at s.texts c.args.name.at) o v (expressions_seen c.args.arguments.now) c.args.line c.requires.state c.requires.newest.1
    (c.swap_newest.ensures f c.requires.newest.0 c.requires.newest.1) refl refl known before
    (λ gs. ap (λ (es : List Expression). Lists (expressions_seen es) (values_seen s.texts c.add.new.self) gs) c.as_slice.ensures ∙ ap (λ (vs : List Value). Lists (expressions_seen c.args.arguments.now) (values_seen s.texts vs) gs) one) c.if-not-pay_link.ensures
    (λ gs. rw c.in-Some.is at (c.method_of.ensures.found (Some c.args.line) gs x refl refl)) in
    first.state

pub list-requires-clause-before : goal.list-requires-clause-before
list-requires-clause-before g c =
    let one : c.add.new.self ≡ c.args.object ∷ [] = c.in_ok-add-in-Some.ensures.ok ∙ ap (λ (vs : List Value). vs ++ c.args.object ∷ []) c.new-before.ensures in
    subst (ValuesOf c.args.store.now) (sym one) (c.requires.object, tt)

pub returns-in_ok-add-in-Some : goal.returns-in_ok-add-in-Some
returns-in_ok-add-in-Some g c =
    let s = c.args.store.now in
    let m = c.args.state.now in
    let x = slots_of s m in
    let o = seen s.texts c.args.object in
    let v = seen s.texts c.in-Some.method.value in
    let f = frame.Expression (in_expression.MethodNext c.args.name c.args.arguments c.args.line) in
    let g2 = frame.Expression (in_expression.CallNow c.in-Some.method.value c.args.line) in
    let y = focus.Lists c.as_slice.result c.add.new.self in
    let one : c.add.new.self ≡ c.args.object ∷ [] = c.in_ok-add-in-Some.ensures.ok ∙ ap (λ (vs : List Value). vs ++ c.args.object ∷ []) c.new-before.ensures in
    let before : ValuesOf s c.add.new.self = subst (ValuesOf s) (sym one) (c.requires.object, tt) in
    let known = rw c.in-Some.is at c.method_of.ensures.of in
    let first = method_follows s m c.in-Some.method.linked c.args.left.now c.pay_link.new.left c.args.turns.now f g2 c.requires.newest.0 c.swap_newest.new.frames y (text_at s.texts c.args.name.at) o v (expressions_seen c.args.arguments.now) c.args.line c.requires.state c.requires.newest.1
    (c.swap_newest.ensures f c.requires.newest.0 c.requires.newest.1) refl refl known before
    (λ gs. ap (λ (es : List Expression). Lists (expressions_seen es) (values_seen s.texts c.add.new.self) gs) c.as_slice.ensures ∙ ap (λ (vs : List Value). Lists (expressions_seen c.args.arguments.now) (values_seen s.texts vs) gs) one) c.if-not-pay_link.ensures
    (λ gs. rw c.in-Some.is at (c.method_of.ensures.found (Some c.args.line) gs x refl refl)) in
    let p = Gives (Goes (o ∷ [])) (frames_of s m) in
    must_may s m p c.args.left.now c.args.turns.now c.list.new.store c.list.new.state c.list.new.left c.list.new.turns c.list.result
    (then_must s m p c.args.left.now c.args.turns.now s (with_frames m c.swap_newest.new.frames) c.pay_link.new.left c.args.turns.now y c.list.new.store c.list.new.state c.list.new.left c.list.new.turns c.list.result first c.list.ensures)

pub returns-in-None : goal.returns-in-None
returns-in-None g c = idle_here c.args.store.now c.args.state.now c.args.left.now c.args.turns.now
