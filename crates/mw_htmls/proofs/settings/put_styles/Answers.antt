use Rattle.mw_htmls.proofs.Changed.{styles_taken, node_with_styles, styles_put}
use Rattle.mw_htmls.proofs.settings.put_styles.Goals as goal

pub put-requires-clause-node : goal.put-requires-clause-node
put-requires-clause-node c =
    node_with_styles c.take-node.new.store c.take-node.result c.args.styles c.take-node.ensures.of (styles_taken c.args.store.now c.take-node.new.store c.args.styles c.take-node.ensures.later c.requires.styles).0

pub returns-clause-put : goal.returns-clause-put
returns-clause-put c =
    styles_put c.args.store.now c.take-node.new.store c.put.new.store c.args.id.at c.take-node.result c.args.styles c.take-node.ensures.taken c.take-node.ensures.node c.put.ensures.put
