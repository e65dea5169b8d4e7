use Rattle.std.proofs.Common.{arith}
use Rattle.wiki_pages.specs.Forests.{nodes_in}
use Rattle.wiki_pages.proofs.preparing.add_run.Goals as goal

pub returns-clause-right : goal.returns-clause-right
returns-clause-right c = c.in_ok-keep.ensures (nodes_in c.args.parts.now.nodes) c.requires c.in_ok-run.ensures.right

pub returns-clause-falls : goal.returns-clause-falls
returns-clause-falls c = omega (arith, c.in_ok-run.ensures.right.light, c.in_ok-run.ensures.end)
