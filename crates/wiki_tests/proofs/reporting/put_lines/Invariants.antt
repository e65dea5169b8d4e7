use Rattle.std.proofs.Common.{◌≡◌, ◌++◌, drop}
use Rattle.std.specs.Prelude.{flat_map}
use Rattle.wiki_tests.specs.Report.{with_break}
use Rattle.wiki_tests.proofs.reporting.put_lines.Given as goal

abbrev pub invariant-loop-line : goal.invariant-loop-line
invariant-loop-line l = l.made.items ++ flat_map with_break (drop l.line-index l.lines) ≡ l.initial.made.items ++ flat_map with_break l.lines
