use Rattle.wiki_pages.specs.Forests.{nodes_in}
use Rattle.wiki_pages.proofs.preparing.case_run.Goals as goal

pub loop-table-init : goal.loop-table-init
loop-table-init c = record { right = c.new-table.ensures.right (nodes_in c.args.parts.now.nodes); end = c.new-table.ensures.end }
