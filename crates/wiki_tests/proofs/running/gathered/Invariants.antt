use Rattle.std.proofs.Common.{◌≡◌, map, Ok}
use Rattle.wiki_tests.proofs.running.gathered.Given as goal

abbrev pub invariant-loop-part : goal.invariant-loop-part
invariant-loop-part l = l.yielded ≡ map Ok l.lines
