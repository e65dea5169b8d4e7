use Rattle.std.specs.Prelude.{map, string_bytes}
use Rattle.wiki_fmt.proofs.DueLemmas.{work_prepared, work_has, none_prepared, none_has}
use Rattle.wiki_fmt.proofs.top_call.prepare.Goals as goal

pub returns-in-Ok-None-clause-prepares : goal.returns-in-Ok-None-clause-prepares
returns-in-Ok-None-clause-prepares g c = none_prepared (map string_bytes c.args.words.now) (g.S.Shelf.files c.args.shelf.now) _ c.usage.result (rw c.in-Ok-None.field-0-is at c.in-Ok-None.ensures) c.usage.ensures.report c.usage.ensures.memory

pub returns-in-Ok-None-clause-has_due : goal.returns-in-Ok-None-clause-has_due
returns-in-Ok-None-clause-has_due g c = none_has (map string_bytes c.args.words.now) (g.S.Shelf.files c.args.shelf.now) c.usage.result (rw c.in-Ok-None.field-0-is at c.in-Ok-None.ensures)

pub returns-in-Ok-Some-clause-prepares : goal.returns-in-Ok-Some-clause-prepares
returns-in-Ok-Some-clause-prepares g c = work_prepared (map string_bytes c.args.words.now) (g.S.Shelf.files c.args.shelf.now) _ _ c.command_report.result (rw c.in-Ok-Some.field-0-is at c.in-Ok-Some.ensures) c.command_report.ensures.report c.command_report.ensures.answer c.command_report.ensures.cause

pub returns-in-Ok-Some-clause-has_due : goal.returns-in-Ok-Some-clause-has_due
returns-in-Ok-Some-clause-has_due g c = work_has (map string_bytes c.args.words.now) (g.S.Shelf.files c.args.shelf.now) _ c.command_report.result (rw c.in-Ok-Some.field-0-is at c.in-Ok-Some.ensures) c.command_report.ensures.report
