use Rattle.std.proofs.Common.{◌∙◌, ap}
use Rattle.wiki_pages.specs.Pages.{Pages}
use Rattle.wiki_app.specs.Report.{titles_report}
use Rattle.wiki_app.proofs.answer.wiki_report.Goals as goal

pub returns-clause-report : goal.returns-clause-report
returns-clause-report g c = λ modules mean.
    c.in_ok-report.ensures.report modules (c.in_ok-wiki.ensures.code modules mean)
    ∙ ap (λ (map : Pages). titles_report modules map c.args.settings.now c.args.form c.args.titles.now) c.in_ok-wiki.ensures.pages

pub returns-clause-has_modules : goal.returns-clause-has_modules
returns-clause-has_modules g c = c.in_ok-wiki.ensures.has_modules
