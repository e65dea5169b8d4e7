use Rattle.std.proofs.Common.{◌≡◌, ◌++◌, drop}
use Rattle.wiki_output.specs.Output.{blocks}
use Rattle.wiki_output.proofs.output.blocks.Given as goal

abbrev pub invariant-loop-page : goal.invariant-loop-page
invariant-loop-page l = l.made.items ++ blocks (drop l.page-index l.pages) ≡ blocks l.pages
