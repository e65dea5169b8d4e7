use Rattle.std.proofs.Common.{sym, ap, subst}
use Rattle.std.specs.Prelude.{◌≤◌, ℕ}
use Rattle.wk_base.specs.Allowances.{IsCountable}
use Rattle.wiki_tests.specs.Command.{Command}
use Rattle.wiki_tests.proofs.DueLemmas.{of_pages, of_fault, at_view, no_failure}
use Rattle.wiki_tests.proofs.answer.command_report.Goals as goal

pub on_pages-requires-clause-countable : goal.on_pages-requires-clause-countable
on_pages-requires-clause-countable g c κs within = subst IsCountable (sym (ap (λ (k : Command). k.limits) c.command.view_is)) c.requires.countable

pub on_pages-requires-clause-jobs : goal.on_pages-requires-clause-jobs
on_pages-requires-clause-jobs g c κs within = subst (λ (n : ℕ). 1 ≤ n) (sym (ap (λ (k : Command). k.jobs) c.command.view_is)) c.requires.jobs

pub returns-in-Ok-clause-report : goal.returns-in-Ok-clause-report
returns-in-Ok-clause-report g c =
    at_view c.on_pages.result (g.S.Shelf.files c.args.shelf.now) c.command.inside.folder.now c.command.inside.limits c.command.inside.jobs c.args.command.now c.command.view_is
    (of_pages c.on_pages.result c.command.inside.limits c.in-Ok.pages (g.S.Shelf.files c.args.shelf.now) c.command.inside.folder.now c.in-Ok.ensures.pages c.on_pages.ensures.report)

pub returns-in-Ok-clause-cause : goal.returns-in-Ok-clause-cause
returns-in-Ok-clause-cause g c = no_failure c.on_pages.result c.on_pages.ensures.memory

pub returns-in-Err-Source-clause-report : goal.returns-in-Err-Source-clause-report
returns-in-Err-Source-clause-report g c =
    at_view c.on_fault.result (g.S.Shelf.files c.args.shelf.now) c.command.inside.folder.now c.command.inside.limits c.command.inside.jobs c.args.command.now c.command.view_is
    (of_fault c.on_fault.result c.command.inside.limits c.in-Err-Source.fault (g.S.Shelf.files c.args.shelf.now) c.command.inside.folder.now (rw c.in-Err-Source.field-0-is at c.in-Err-Source.ensures.fault) (rw c.in-Err-Source.field-0-is at c.on_fault.ensures.report))

pub returns-in-Err-Source-clause-cause : goal.returns-in-Err-Source-clause-cause
returns-in-Err-Source-clause-cause g c = no_failure c.on_fault.result c.on_fault.ensures.memory
