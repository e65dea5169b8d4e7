use Rattle.std.proofs.lemmas.Result.{IfOk-weaker}
use Rattle.std.proofs.Common.{refl}
use Rattle.lua_state.specs.Seen.{slots_of, frames_of}
use Rattle.lua_state.proofs.Making.{counts_none}
use Rattle.lua_blocks.proofs.Parts.{node_paid, node_short}
use Rattle.lua_blocks.proofs.Blocks.{block_begins}
use Rattle.lua_blocks.proofs.statements.run.Goals as goal

pub returns-in-None : goal.returns-in-None
returns-in-None g c = rw c.in-None.ensures (counts_none c.args.store.now c.args.store.now c.args.state.now c.args.state.now c.args.left.now c.args.left.now _ _ _ _ refl (c.nothing.ensures c.args.left.now))

pub returns-then-not-pay_node : goal.returns-then-not-pay_node
returns-then-not-pay_node g c =
    node_short c.args.store.now c.args.state.now c.args.left.now c.pay_node.new.left _ _ _ _
    (block_begins c.args.statements.now c.in-Some.front.rest.now c.in-Some.front.first.now (frames_of c.args.store.now c.args.state.now) (slots_of c.args.store.now c.args.state.now) c.in-Some.ensures) c.requires.state
    c.if-not-pay_node.ensures.pays c.if-not-pay_node.ensures.counts

pub returns-else-not-pay_node : goal.returns-else-not-pay_node
returns-else-not-pay_node g c =
    IfOk-weaker c.begin.result _ _ (λ r e. node_paid c.args.store.now c.begin.new.store c.args.state.now c.begin.new.state c.args.left.now c.pay_node.new.left c.begin.new.left _ _ _ _ _
    (block_begins c.args.statements.now c.in-Some.front.rest.now c.in-Some.front.first.now (frames_of c.args.store.now c.args.state.now) (slots_of c.args.store.now c.args.state.now) c.in-Some.ensures)
    c.if-not-pay_node.ensures.pays c.if-not-pay_node.ensures.counts e) c.begin.ensures
