use Rattle.std.proofs.Common.{◌≡◌, ◌∙◌, List, ap, sym, subst, rules}
use Rattle.wk_base.specs.declared.title.Title.{Title}
use Rattle.wiki_output.specs.declared.made.Form.{Form}
use Rattle.wiki_batch.specs.WikiTextsDeclaredRawRawPage.{RawPage}
use Rattle.wiki_batch.specs.WikiTextsModules.{AreMeantBy}
use Rattle.wiki_app.specs.Pages.{raw_pages, titles_of, form_of}
use Rattle.wiki_app.specs.Report.{wiki_report}
use Rattle.wiki_app.proofs.answer.command_report.Goals as goal

pub returns-clause-report : goal.returns-clause-report
returns-clause-report g c = λ modules mean.
    let settings = c.args.command.now.settings in
    let work = c.args.command.now.work in
    let raw : c.in_ok-raw.raw ≡ raw_pages c.args.pages = c.in_ok-raw.ensures in
    let form : c.form_of-form.result ≡ form_of work = c.form_of-form.ensures in
    let titles : c.as_slice-2.result.now ≡ titles_of work c.args.pages = search rules in
    c.in_ok-report.ensures.report modules (subst (λ (ps : List RawPage). AreMeantBy ps modules) (sym raw) mean)
    ∙ ap (λ (ps : List RawPage). wiki_report modules settings c.form_of-form.result c.as_slice-2.result.now ps) raw
    ∙ ap (λ (f : Form). wiki_report modules settings f c.as_slice-2.result.now (raw_pages c.args.pages)) form
    ∙ ap (λ (ts : List Title). wiki_report modules settings (form_of work) ts (raw_pages c.args.pages)) titles

pub returns-clause-has_modules : goal.returns-clause-has_modules
returns-clause-has_modules g c =
    let raw : c.in_ok-raw.raw ≡ raw_pages c.args.pages = c.in_ok-raw.ensures in
    let found = c.in_ok-report.ensures.has_modules in
    (found.0, subst (λ (ps : List RawPage). AreMeantBy ps found.0) raw found.1)
