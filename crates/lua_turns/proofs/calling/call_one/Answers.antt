use Rattle.std.proofs.Common.{◌≡◌, ◌∙◌, ◌∷◌, ◌++◌, [], sym, ap, subst, List, Some}
use Rattle.lua_operators.specs.LuaStoreDeclaredValueValue.{Value}
use Rattle.lua_operators.specs.LuaStackDeclaredFrameFrameTheVariants as frame
use Rattle.lua_operators.specs.LuaStackDeclaredFrameInExpressionTheVariants as in_expression
use Rattle.lua_operators.specs.LuaStackOf.{ValuesOf}
use Rattle.lua_operators.specs.LuaStackSeen.{values_seen}
use Rattle.lua_strides.proofs.Paths.{idle_here}
use Rattle.lua_turns.proofs.Freely.{newest_of}
use Rattle.lua_turns.proofs.calling.call_one.Goals as goal

pub callee_of-requires : goal.callee_of-requires
callee_of-requires g c = newest_of c.args.store.now c.args.state.now.frames c.requires.newest.0 (frame.Expression (in_expression.CallNow c.args.called c.args.line)) c.requires.newest.1 c.requires.state.frames

pub enter-requires-clause-callee : goal.enter-requires-clause-callee
enter-requires-clause-callee g c = rw c.in-Some.is at c.callee_of.ensures.of

pub enter-requires-clause-arguments : goal.enter-requires-clause-arguments
enter-requires-clause-arguments g c =
    let one : c.add.new.self ≡ c.args.argument ∷ [] = c.in_ok-add-in-Some.ensures.ok ∙ ap (λ (vs : List Value). vs ++ c.args.argument ∷ []) c.new-arguments.ensures in
    subst (ValuesOf c.args.store.now) (sym one) (c.requires.argument, tt)

pub enter-requires-clause-call : goal.enter-requires-clause-call
enter-requires-clause-call g c = λ fs s h. rw c.in-Some.is at (c.callee_of.ensures.call (values_seen c.args.store.now.texts c.add.new.self) (Some c.args.line) fs s h)

pub returns-in_ok-next-in-Some : goal.returns-in_ok-next-in-Some
returns-in_ok-next-in-Some g c =
    let one : c.add.new.self ≡ c.args.argument ∷ [] = c.in_ok-add-in-Some.ensures.ok ∙ ap (λ (vs : List Value). vs ++ c.args.argument ∷ []) c.new-arguments.ensures in
    rw one at c.in_ok-next-in-Some.ensures

pub returns-in-None : goal.returns-in-None
returns-in-None g c = idle_here c.args.store.now c.args.state.now c.args.left.now c.args.turns.now

pub enter-requires-clause-steps : goal.enter-requires-clause-steps
enter-requires-clause-steps g c = (c.may_enter.ensures c.if-not-may_enter.false).0

pub enter-requires-clause-calls : goal.enter-requires-clause-calls
enter-requires-clause-calls g c = (c.may_enter.ensures c.if-not-may_enter.false).1
