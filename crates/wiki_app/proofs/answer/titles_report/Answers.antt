use Rattle.std.proofs.Common.{◌≡◌, rules}
use Rattle.std.specs.Prelude.{Some, None}
use Rattle.wiki_app.specs.Pages.{first_missing}
use Rattle.wiki_app.proofs.PageLemmas.{all_held, missing_case, done_case}
use Rattle.wiki_app.proofs.answer.titles_report.Goals as goal

pub returns-in_ok-report-in-Some-clause-report : goal.returns-in_ok-report-in-Some-clause-report
returns-in_ok-report-in-Some-clause-report g c = λ modules are.
    let missing : first_missing c.args.wiki.now.pages c.args.titles.now ≡ Some c.in-Some.title.now = search rules in
    missing_case _ _ _ c.in-Some.title.now c.in_ok-report-in-Some.ensures missing

pub expanded_report-requires : goal.expanded_report-requires
expanded_report-requires g c =
    let none : first_missing c.args.wiki.now.pages c.args.titles.now ≡ None = search rules in
    search (rules, all_held c.args.wiki.now.pages c.args.titles.now none)

pub returns-in_ok-report-in-None-clause-report : goal.returns-in_ok-report-in-None-clause-report
returns-in_ok-report-in-None-clause-report g c = λ modules are.
    let none : first_missing c.args.wiki.now.pages c.args.titles.now ≡ None = search rules in
    done_case _ _ _ (c.in_ok-report-in-None.ensures.report modules are) none
