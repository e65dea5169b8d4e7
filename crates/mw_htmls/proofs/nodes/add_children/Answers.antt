use Rattle.mw_htmls.proofs.Changed.{more_children, children_taken, node_put}
use Rattle.mw_htmls.proofs.nodes.add_children.Goals as goal

pub put-requires-clause-node : goal.put-requires-clause-node
put-requires-clause-node c =
    more_children c.take-node.new.store c.take-node.result c.extend.new.children c.args.children.now c.take-node.ensures.of
    (children_taken c.args.store.now c.take-node.new.store c.args.children.now c.take-node.ensures.later c.requires.children) c.in_ok-extend.ensures

pub returns-clause-added : goal.returns-clause-added
returns-clause-added c =
    node_put c.args.store.now c.take-node.new.store c.put.new.store c.args.id.at c.take-node.result c.extend.new.children c.args.children.now c.take-node.ensures.taken c.take-node.ensures.node c.in_ok-extend.ensures c.put.ensures.put
