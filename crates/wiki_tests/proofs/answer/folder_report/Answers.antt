use Rattle.std.proofs.Common.{◌≡◌, List, subst, rules}
use Rattle.std.specs.Prelude.{IfOk}
use Rattle.wiki_batch.specs.WikiTextsDeclaredRawRawPage.{RawPage}
use Rattle.wiki_tests.specs.declared.tested.TestModule.{TestModule}
use Rattle.wiki_tests.specs.Texts.{AreTestModules}
use Rattle.wiki_tests.specs.Report.{IsReport}
use Rattle.wiki_tests.proofs.RunLaws.{folder_made, whatever}
use Rattle.wiki_tests.proofs.answer.folder_report.Goals as goal

pub returns-clause-report : goal.returns-clause-report
returns-clause-report g c =
    let held : c.as_slice.result.now ≡ c.args.pages = search rules in
    let shown : c.as_slice-2.result.now ≡ c.in_ok-tests.tests = search rules in
    let tests : AreTestModules c.args.pages c.in_ok-tests.tests = subst (λ (ps : List RawPage). AreTestModules ps c.in_ok-tests.tests) held c.in_ok-tests.ensures in
    let made : IfOk c.report-made.result (λ report. IsReport c.in_ok-wiki.wiki c.args.limits.now c.in_ok-tests.tests report) = subst (λ (ts : List TestModule). IfOk c.report-made.result (λ report. IsReport c.in_ok-wiki.wiki c.args.limits.now ts report)) shown c.report-made.ensures in
    folder_made c.report-made.result c.in_ok-wiki.wiki c.args.limits.now c.args.pages c.in_ok-tests.tests tests c.in_ok-wiki.ensures.pages (λ modules mean page. c.in_ok-wiki.ensures.code modules mean page) made

pub returns-clause-has_modules : goal.returns-clause-has_modules
returns-clause-has_modules g c = whatever c.report-made.result c.in_ok-wiki.ensures.has_modules
