use Rattle.std.proofs.Common.{◌+◌}
use Rattle.lua_code.specs.Seen.{expression_seen}
use Rattle.lua_strides.specs.LuaStackDeclaredFocusFocusTheVariants as focus
use Rattle.lua_strides.specs.LuaStackDeclaredValuesGivenTheVariants as given
use Rattle.lua_strides.proofs.Paths.{strode, unpaid}
use Rattle.lua_turns.proofs.ReadFirst.{second_read, second_waits}
use Rattle.lua_turns.proofs.operands.second.Goals as goal

pub returns-then-not-pay_nodes : goal.returns-then-not-pay_nodes
returns-then-not-pay_nodes g c = λ p leads.
    unpaid c.args.store.now c.args.state.now (c.args.nodes + c.in-Some.found.nodes) c.args.left.now c.pay_nodes.new.left c.args.turns.now c.pay_nodes.new.turns c.if-not-pay_nodes.ensures

pub returns-else-not-pay_nodes : goal.returns-else-not-pay_nodes
returns-else-not-pay_nodes g c = λ p leads.
    let s = c.args.store.now in
    let m = c.args.state.now in
    let r = c.in-Some.found in
    strode s m p (c.args.nodes + r.nodes) (focus.Gives (given.One r.value)) m.frames c.args.left.now c.pay_nodes.new.left c.args.turns.now c.pay_nodes.new.turns
    (second_read s m p c.args.nodes c.requires.state c.requires.some (expression_seen c.args.e.now) r (rw c.in-Some.is at c.read.ensures) leads) c.if-not-pay_nodes.ensures

pub returns-then-not-pay_nodes-2 : goal.returns-then-not-pay_nodes-2
returns-then-not-pay_nodes-2 g c = λ p leads.
    unpaid c.args.store.now c.args.state.now c.args.nodes c.args.left.now c.pay_nodes-in-None.new.left c.args.turns.now c.pay_nodes-in-None.new.turns c.if-not-pay_nodes-2.ensures

pub returns-else-not-pay_nodes-2 : goal.returns-else-not-pay_nodes-2
returns-else-not-pay_nodes-2 g c = λ p leads.
    let s = c.args.store.now in
    c.wait_for.ensures s p c.args.nodes c.args.left.now c.pay_nodes-in-None.new.left c.args.turns.now c.pay_nodes-in-None.new.turns
    (second_waits s c.args.state.now p c.args.nodes c.requires.state c.requires.some c.args.e leads) c.if-not-pay_nodes-2.ensures
