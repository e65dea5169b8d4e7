use Rattle.wk_tool.specs.Report.{missing_report}
use Rattle.wiki_lint.specs.Told.{tool}
use Rattle.wiki_fmt.proofs.DueLemmas.{missing_page, held_page, status_of}
use Rattle.wiki_fmt.proofs.answer.pages_report.Goals as goal

pub returns-in-None-clause-report : goal.returns-in-None-clause-report
returns-in-None-clause-report c = missing_page c.args.title.now c.missing_report.result _ c.in-None.ensures c.missing_report.ensures

pub returns-in-None-clause-answer : goal.returns-in-None-clause-answer
returns-in-None-clause-answer c = status_of c.missing_report.result (missing_report tool c.args.title.now) tt c.missing_report.ensures

pub returns-in-Some-clause-report : goal.returns-in-Some-clause-report
returns-in-Some-clause-report c = held_page c.args.title.now c.text_report.result _ _ c.in-Some.ensures c.text_report.ensures.report
