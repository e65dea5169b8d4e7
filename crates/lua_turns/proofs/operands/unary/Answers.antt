use Rattle.std.proofs.Common.{◌+◌, refl, Some}
use Rattle.lua_code.specs.Seen.{expression_seen}
use Rattle.lua_code.specs.LuaSlotsCode.{UnaryC}
use Rattle.lua_operators.specs.LuaSlotsPoints.{UnaryNow}
use Rattle.lua_strides.proofs.LuaInPlacePlain.{applied_is}
use Rattle.lua_operators.specs.LuaStoreSeen.{seen}
use Rattle.lua_strides.specs.LuaStackDeclaredFocusFocusTheVariants as focus
use Rattle.lua_strides.specs.LuaStackDeclaredValuesGivenTheVariants as given
use Rattle.lua_loops.specs.LuaStateSeen.{frames_of, slots_of}
use Rattle.lua_strides.proofs.Paths.{idle_here, unpaid}
use Rattle.lua_turns.proofs.ReadFirst.{strode_first}
use Rattle.lua_turns.proofs.operands.unary.Goals as goal

pub result_of-requires : goal.result_of-requires
result_of-requires g c = (rw c.in-Some.is at c.read.ensures).of

pub returns-then-not-pay_nodes : goal.returns-then-not-pay_nodes
returns-then-not-pay_nodes g c = unpaid c.args.store.now c.args.state.now (1 + c.in-Some.found.nodes) c.args.left.now c.pay_nodes.new.left c.args.turns.now c.pay_nodes.new.turns c.if-not-pay_nodes.ensures

pub returns-else-not-pay_nodes : goal.returns-else-not-pay_nodes
returns-else-not-pay_nodes g c =
    let s = c.args.store.now in
    let m = c.args.state.now in
    let r = c.in-Some.found in
    let v = c.in-Some-result_of.value in
    let a = expression_seen c.args.a.now in
    let known = rw c.in-Some-result_of.is at c.result_of.ensures.of in
    let is = rw c.in-Some-result_of.is at c.result_of.ensures.value in
    strode_first s m (UnaryC c.args.op a c.args.line) a (UnaryNow c.args.op c.args.line) r c.requires (rw c.in-Some.is at c.read.ensures) refl (focus.Gives (given.One v)) m.frames m.frames c.args.left.now c.pay_nodes.new.left c.args.turns.now c.pay_nodes.new.turns (known s, tt) c.requires.frames refl
    (applied_is (Some c.args.line) (frames_of s m) (slots_of s m) c.args.op (seen s.texts r.value) (seen s.texts v) is) c.if-not-pay_nodes.ensures

pub returns-in-None-result_of : goal.returns-in-None-result_of
returns-in-None-result_of g c = idle_here c.args.store.now c.args.state.now c.args.left.now c.args.turns.now

pub returns-in-None : goal.returns-in-None
returns-in-None g c = c.begin_unary.ensures c.args.store.now c.requires
