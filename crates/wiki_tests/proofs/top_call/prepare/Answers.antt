use Rattle.std.specs.Prelude.{map, string_bytes}
use Rattle.wiki_tests.proofs.DueLemmas.{work_prepared, work_has, none_prepared, none_has}
use Rattle.wiki_tests.proofs.top_call.prepare.Goals as goal

pub returns-in-None-clause-prepares : goal.returns-in-None-clause-prepares
returns-in-None-clause-prepares g c = none_prepared (map string_bytes c.args.words.now) (g.S.Shelf.files c.args.shelf.now) _ c.usage.result c.in-None.ensures.command c.usage.ensures.report c.usage.ensures.memory

pub returns-in-None-clause-has_due : goal.returns-in-None-clause-has_due
returns-in-None-clause-has_due g c = none_has (map string_bytes c.args.words.now) (g.S.Shelf.files c.args.shelf.now) c.usage.result c.in-None.ensures.command

pub returns-in-Some-clause-prepares : goal.returns-in-Some-clause-prepares
returns-in-Some-clause-prepares g c = work_prepared (map string_bytes c.args.words.now) (g.S.Shelf.files c.args.shelf.now) _ _ c.command_report.result c.in-Some.ensures.command c.command_report.ensures.report c.command_report.ensures.answer c.command_report.ensures.cause

pub returns-in-Some-clause-has_due : goal.returns-in-Some-clause-has_due
returns-in-Some-clause-has_due g c = work_has (map string_bytes c.args.words.now) (g.S.Shelf.files c.args.shelf.now) _ c.command_report.result c.in-Some.ensures.command c.command_report.ensures.report
