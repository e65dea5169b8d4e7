use Rattle.std.proofs.Common.{refl, [], ◌∷◌, Some}
use Rattle.lua_loops.specs.PageRunOutcome.{Goes}
use Rattle.lua_code.specs.Seen.{operator_seen}
use Rattle.lua_strides.proofs.LuaInPlacePlain.{operated_is}
use Rattle.lua_operators.specs.LuaStoreSeen.{seen}
use Rattle.lua_strides.specs.LuaStackDeclaredFocusFocusTheVariants as focus
use Rattle.lua_operators.specs.LuaStackDeclaredFrameFrameTheVariants as frame
use Rattle.lua_operators.specs.LuaStackDeclaredFrameInExpressionTheVariants as in_expression
use Rattle.lua_strides.specs.LuaStackDeclaredValuesGivenTheVariants as given
use Rattle.lua_loops.specs.LuaStateSeen.{slots_of}
use Rattle.lua_strides.proofs.Paths.{idle_here}
use Rattle.lua_turns.proofs.Freely.{newest_of, popped_here}
use Rattle.lua_turns.proofs.giving.operate.Goals as goal

pub operated-requires-clause-first : goal.operated-requires-clause-first
operated-requires-clause-first c = newest_of c.args.store.now c.args.state.now.frames c.requires.newest.0 (frame.Expression (in_expression.OperateNow c.args.op c.args.a c.args.line)) c.requires.newest.1 c.requires.state.frames

pub returns-in-Some : goal.returns-in-Some
returns-in-Some c = λ l k.
    let s = c.args.store.now in
    let m = c.args.state.now in
    let f = frame.Expression (in_expression.OperateNow c.args.op c.args.a c.args.line) in
    let of = rw c.in-Some.is at c.operated.ensures.of in
    let is = rw c.in-Some.is at c.operated.ensures.value in
    popped_here s m l k (Goes (seen s.texts c.args.value ∷ [])) f c.requires.newest.0 c.drop_newest.new.frames m.regs (focus.Gives (given.One c.in-Some.value)) (slots_of s m) c.requires.state c.requires.newest.1
    (c.drop_newest.ensures f c.requires.newest.0 c.requires.newest.1) c.requires.state.regs (of, tt)
    (λ world gs. operated_is (Some c.args.line) gs (slots_of s m) (operator_seen c.args.op) (seen s.texts c.args.a) (seen s.texts c.args.value) (seen s.texts c.in-Some.value) is) refl

pub returns-in-None : goal.returns-in-None
returns-in-None c = λ l k. idle_here c.args.store.now c.args.state.now l k
