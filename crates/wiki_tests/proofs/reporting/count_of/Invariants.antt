use Rattle.std.proofs.Common.{◌≡◌, ◌+◌, ◌≤◌, drop}
use Rattle.wiki_tests.specs.Report.{count_of}
use Rattle.wiki_tests.proofs.reporting.count_of.Given as goal

abbrev pub invariant-loop-line : goal.invariant-loop-line
invariant-loop-line l = (l.count + count_of l.begin (drop l.line-index l.lines) ≡ count_of l.begin l.lines) × (l.count ≤ l.line-index)
