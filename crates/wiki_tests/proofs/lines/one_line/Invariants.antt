use Rattle.std.proofs.Common.{◌≡◌, ◌++◌, drop}
use Rattle.wiki_tests.specs.Lines.{one_line}
use Rattle.wiki_tests.proofs.lines.one_line.Given as goal

abbrev pub invariant-loop-byte : goal.invariant-loop-byte
invariant-loop-byte l = l.line.items ++ one_line (drop l.byte-index l.text) ≡ one_line l.text
