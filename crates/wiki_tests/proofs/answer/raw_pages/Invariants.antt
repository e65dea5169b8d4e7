use Rattle.std.proofs.Common.{◌≡◌, map}
use Rattle.wiki_tests.specs.Due.{raw_page}
use Rattle.wiki_tests.proofs.answer.raw_pages.Given as goal

abbrev pub invariant-loop-page : goal.invariant-loop-page
invariant-loop-page l = l.raw ≡ map raw_page l.yielded
