use Rattle.wiki_fmt.proofs.DueLemmas.{of_pages, of_fault, at_view, no_failure}
use Rattle.wiki_fmt.proofs.answer.command_report.Goals as goal

pub returns-in-Ok-clause-report : goal.returns-in-Ok-clause-report
returns-in-Ok-clause-report g c =
    at_view c.on_pages.result (g.S.Shelf.files c.args.shelf.now) c.command.inside.verb c.command.inside.folder.now c.command.inside.title c.args.command.now c.command.view_is
    (of_pages c.on_pages.result c.command.inside.verb c.command.inside.title c.in-Ok.pages (g.S.Shelf.files c.args.shelf.now) c.command.inside.folder.now c.in-Ok.ensures.pages c.on_pages.ensures.report)

pub returns-in-Ok-clause-cause : goal.returns-in-Ok-clause-cause
returns-in-Ok-clause-cause g c = no_failure c.on_pages.result c.on_pages.ensures.memory

pub returns-in-Err-Source-clause-report : goal.returns-in-Err-Source-clause-report
returns-in-Err-Source-clause-report g c =
    at_view c.on_fault.result (g.S.Shelf.files c.args.shelf.now) c.command.inside.verb c.command.inside.folder.now c.command.inside.title c.args.command.now c.command.view_is
    (of_fault c.on_fault.result c.command.inside.verb c.command.inside.title c.in-Err-Source.fault (g.S.Shelf.files c.args.shelf.now) c.command.inside.folder.now (rw c.in-Err-Source.field-0-is at c.in-Err-Source.ensures.fault) (rw c.in-Err-Source.field-0-is at c.on_fault.ensures.report))

pub returns-in-Err-Source-clause-cause : goal.returns-in-Err-Source-clause-cause
returns-in-Err-Source-clause-cause g c = no_failure c.on_fault.result c.on_fault.ensures.memory
