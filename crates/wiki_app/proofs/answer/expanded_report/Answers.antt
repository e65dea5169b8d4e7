use Rattle.std.proofs.Common.{◌≡◌, ◌∙◌, List, ap, map, rules}
use Rattle.wiki_batch.specs.PageDriverDeclaredWikiPage.{Page}
use Rattle.wiki_output.specs.declared.made.Made.{Made}
use Rattle.wiki_output.specs.Report.{done_report}
use Rattle.wiki_app.specs.Pages.{made_page, made_pages}
use Rattle.wiki_app.proofs.answer.expanded_report.Goals as goal

pub returns-clause-report : goal.returns-clause-report
returns-clause-report g c = λ modules are.
    let stats = c.args.settings.now.stats in
    let limits = c.args.settings.now.limits in
    let slice : c.as_slice.result.now ≡ c.in_ok-made.made = search rules in
    let made : c.in_ok-made.made ≡ map (made_page limits) c.in_ok-pages.pages = c.in_ok-made.ensures in
    c.in_ok-report.ensures
    ∙ ap (λ (m : List Made). done_report c.args.form stats m) (slice ∙ made)
    ∙ ap (λ (ps : List Page). done_report c.args.form stats (made_pages limits ps)) (c.in_ok-pages.ensures modules are)
