use Rattle.std.proofs.Common.{refl, Some}
use Rattle.lua_operators.specs.LuaStackDeclaredFrameFrameTheVariants as frame
use Rattle.lua_operators.specs.LuaStackDeclaredFrameInExpressionTheVariants as in_expression
use Rattle.lua_loops.specs.LuaStateSeen.{slots_of}
use Rattle.lua_strides.proofs.Paths.{idle_here}
use Rattle.lua_turns.proofs.Freely.{newest_of}
use Rattle.lua_turns.proofs.Named.{key_follows, not_paid}
use Rattle.lua_turns.proofs.methods.take_key.Goals as goal

pub entry_of-requires-clause-object : goal.entry_of-requires-clause-object
entry_of-requires-clause-object c = newest_of c.args.store.now c.args.state.now.frames c.requires.newest.0 (frame.Expression (in_expression.IndexNow c.args.of c.args.line)) c.requires.newest.1 c.requires.state.frames

pub returns-then-not-pay_link : goal.returns-then-not-pay_link
returns-then-not-pay_link c = λ k. not_paid c.args.store.now c.args.state.now c.in-Some.entry.linked c.args.left.now c.pay_link.new.left k c.if-not-pay_link.ensures

pub returns-else-not-pay_link : goal.returns-else-not-pay_link
returns-else-not-pay_link c = λ k.
    let s = c.args.store.now in
    let m = c.args.state.now in
    let f = frame.Expression (in_expression.IndexNow c.args.of c.args.line) in
    key_follows s m c.in-Some.entry.linked c.args.left.now c.pay_link.new.left k c.args.of c.args.key c.in-Some.entry.value c.args.line c.requires.newest.0 c.drop_newest.new.frames c.requires.state c.requires.newest.1
    (c.drop_newest.ensures f c.requires.newest.0 c.requires.newest.1) (rw c.in-Some.is at c.entry_of.ensures.of) c.if-not-pay_link.ensures
    (λ gs. rw c.in-Some.is at (c.entry_of.ensures.found (Some c.args.line) gs (slots_of s m) refl refl))

pub returns-in-None : goal.returns-in-None
returns-in-None c = λ k. idle_here c.args.store.now c.args.state.now c.args.left.now k
