use Rattle.std.proofs.Common.{◌≡◌, ℕ, List, sym, subst, rules}
use Rattle.wiki_tests.specs.Lines.{subjects}
use Rattle.wiki_tests.specs.Report.{AreLines}
use Rattle.wiki_tests.proofs.RunLaws.{report_made}
use Rattle.wiki_tests.proofs.reporting.report.Goals as goal

pub returns : goal.returns
returns g c =
    let about : c.as_slice.result.now ≡ subjects c.args.tests.now = search rules in
    let shown : c.as_slice-2.result.now ≡ c.in_ok-made.made = search rules in
    let lines : AreLines c.args.wiki.now c.args.limits.now c.as_slice.result.now c.as_slice-2.result.now = subst (λ (ls : List (List ℕ)). AreLines c.args.wiki.now c.args.limits.now c.as_slice.result.now ls) (sym shown) c.in_ok-made.ensures in
    report_made c.report_of_lines.result c.args.wiki.now c.args.limits.now c.args.tests.now c.as_slice.result.now c.as_slice-2.result.now about lines c.report_of_lines.ensures
