use Rattle.std.proofs.lemmas.Result.{IfOk-weaker}
use Rattle.std.proofs.Common.{refl}
use Rattle.lua_blocks.proofs.Parts.{node_paid, node_short}
use Rattle.lua_blocks.proofs.targets.entry.Goals as goal

pub returns-then-not-pay_node : goal.returns-then-not-pay_node
returns-then-not-pay_node g c = node_short c.args.store.now c.args.state.now c.args.left.now c.pay_node.new.left _ _ _ _ refl c.requires.state c.if-not-pay_node.ensures.pays c.if-not-pay_node.ensures.counts

pub returns : goal.returns
returns g c =
    IfOk-weaker c.wait.result _ _ (λ r e. node_paid c.args.store.now c.args.store.now c.args.state.now c.wait.new.state c.args.left.now c.pay_node.new.left c.pay_node.new.left _ _ _ _ _ refl c.if-not-pay_node.ensures.pays c.if-not-pay_node.ensures.counts e) (c.wait.ensures c.pay_node.new.left)
