use Rattle.mw_htmls.proofs.Climbs.{itself, climbs, arrives}
use Rattle.mw_htmls.proofs.above.root.Goals as goal

pub up-init : goal.up-init
up-init c = (c.requires, itself c.args.store.now.heap.markup c.args.id.at)

pub parent-requires : goal.parent-requires
parent-requires c = c.up.invariant.0

pub up-preserved : goal.up-preserved
up-preserved c = (c.in-Some.ensures.of, climbs c.args.store.now.heap.markup c.args.id.at c.up.object.at c.in-Some.above.at c.in-Some.ensures.parent c.up.invariant.1)

pub returns-in-None-clause-root : goal.returns-in-None-clause-root
returns-in-None-clause-root c = arrives c.args.store.now.heap.markup c.args.id.at c.up.object.at c.in-None.ensures.parent c.up.invariant.1

pub returns-in-None-clause-of : goal.returns-in-None-clause-of
returns-in-None-clause-of c = c.up.invariant.0
