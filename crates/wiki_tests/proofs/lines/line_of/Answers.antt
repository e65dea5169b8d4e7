use Rattle.std.proofs.Common.{sym, subst}
use Rattle.std.specs.Prelude.{IfOk}
use Rattle.wiki_tests.specs.declared.subjects.Subject.{Subject}
use Rattle.wiki_tests.specs.Report.{IsLine}
use Rattle.wiki_tests.proofs.RunLaws.{fault_made}
use Rattle.wiki_tests.proofs.lines.line_of.Goals as goal

pub returns-in-Case : goal.returns-in-Case
returns-in-Case c = subst (λ (s : Subject). IfOk c.case_line.result (λ line. IsLine c.args.wiki.now c.args.limits.now s line)) (sym c.in-Case.is) c.case_line.ensures

pub returns-in-Fault : goal.returns-in-Fault
returns-in-Fault c =
    subst (λ (s : Subject). IfOk c.fault_line.result (λ line. IsLine c.args.wiki.now c.args.limits.now s line)) (sym c.in-Fault.is)
    (fault_made c.fault_line.result c.args.wiki.now c.args.limits.now c.in-Fault.title c.in-Fault.fault c.fault_line.ensures)
