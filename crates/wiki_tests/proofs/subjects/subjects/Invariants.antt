use Rattle.std.proofs.Common.{◌≡◌, ◌++◌, drop}
use Rattle.wiki_tests.specs.Lines.{subjects}
use Rattle.wiki_tests.proofs.subjects.subjects.Given as goal

abbrev pub invariant-loop-test : goal.invariant-loop-test
invariant-loop-test l = l.all ++ subjects (drop l.test-index l.tests) ≡ subjects l.tests
