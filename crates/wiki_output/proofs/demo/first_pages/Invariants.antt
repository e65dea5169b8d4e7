use Rattle.std.proofs.Common.{◌≡◌}
use Rattle.wiki_output.specs.Demo.{first_pages}
use Rattle.wiki_output.proofs.demo.first_pages.Given as goal

abbrev pub invariant-loop-before : goal.invariant-loop-before
invariant-loop-before l = l.pages ≡ first_pages l.before
