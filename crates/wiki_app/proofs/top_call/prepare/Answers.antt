use Rattle.std.proofs.Common.{◌≡◌, ◌∙◌, ap, rules}
use Rattle.wk_tool.specs.Report.{source_report}
use Rattle.wiki_app.specs.Report.{tool}
use Rattle.wiki_app.proofs.RunLemmas.{of_pages, meant_by_pages, of_fault, meant_by_none}
use Rattle.wiki_app.proofs.top_call.prepare.Goals as goal

pub returns-in_ok-report-in-Ok-clause-report : goal.returns-in_ok-report-in-Ok-clause-report
returns-in_ok-report-in-Ok-clause-report g c = of_pages _ c.args.command.now c.in_ok-report-in-Ok.report c.in-Ok.pages c.in-Ok.ensures.pages c.in_ok-report-in-Ok.ensures.report

pub returns-in_ok-report-in-Ok-clause-has_modules : goal.returns-in_ok-report-in-Ok-clause-has_modules
returns-in_ok-report-in-Ok-clause-has_modules g c = meant_by_pages _ c.args.command.now c.in_ok-report-in-Ok.report c.in-Ok.pages c.in-Ok.ensures.pages c.in_ok-report-in-Ok.ensures.has_modules

pub returns-in_ok-report-in-Err-Source-clause-report : goal.returns-in_ok-report-in-Err-Source-clause-report
returns-in_ok-report-in-Err-Source-clause-report g c =
    let same : c.as_slice.result.now ≡ c.in-Err-Source.fault = search rules in
    of_fault _ c.args.command.now c.in_ok-report-in-Err-Source.report c.in-Err-Source.fault (rw c.in-Err-Source.field-0-is at c.in-Err-Source.ensures.fault) (c.in_ok-report-in-Err-Source.ensures ∙ ap (source_report tool) same)

pub returns-in_ok-report-in-Err-Source-clause-has_modules : goal.returns-in_ok-report-in-Err-Source-clause-has_modules
returns-in_ok-report-in-Err-Source-clause-has_modules g c = meant_by_none _ c.args.command.now c.in_ok-report-in-Err-Source.report c.in-Err-Source.fault (rw c.in-Err-Source.field-0-is at c.in-Err-Source.ensures.fault)
