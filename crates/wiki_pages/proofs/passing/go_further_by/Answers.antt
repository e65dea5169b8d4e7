use Rattle.wiki_pages.specs.Forests.{nodes_in}
use Rattle.wiki_pages.specs.CaseTables.{Lands}
use Rattle.wiki_pages.proofs.FurtherLaws.{leads_to}
use Rattle.wiki_pages.proofs.passing.go_further_by.Goals as goal

pub returns-in_ok-further-in-Some : goal.returns-in_ok-further-in-Some
returns-in_ok-further-in-Some c =
    let lands : Lands c.args.value.now (nodes_in c.args.run.now.nodes) c.args.run.now.at c.args.table.now c.in-Some.landing = rw c.in-Some.is at c.in_ok-landing.ensures in
    leads_to c.args.value.now c.args.run.now c.args.table.now c.in-Some.landing c.in_ok-further-in-Some.further c.requires.end lands c.in_ok-further-in-Some.ensures
