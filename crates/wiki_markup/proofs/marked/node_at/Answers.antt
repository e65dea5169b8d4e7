use Rattle.std.proofs.Common.{arith}
use Rattle.wiki_markup.proofs.HeldLaws.{node_is, no_node}
use Rattle.wiki_markup.proofs.marked.node_at.Goals as goal

pub returns-then-at-nodes : goal.returns-then-at-nodes
returns-then-at-nodes c = no_node c.args.texts.now c.args.nodes.now c.args.at c.if-at-nodes.true

pub returns : goal.returns
returns c = node_is c.args.texts.now c.args.nodes.now c.args.at _ _ (omega arith) c.node_view.ensures
