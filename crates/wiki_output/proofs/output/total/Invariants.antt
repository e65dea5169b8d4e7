use Rattle.std.proofs.Common.{◌≡◌, ◌+◌, drop}
use Rattle.wiki_output.specs.Output.{total}
use Rattle.wiki_output.proofs.output.total.Given as goal

abbrev pub invariant-loop-page : goal.invariant-loop-page
invariant-loop-page l = l.all + total (drop l.page-index l.pages) ≡ total l.pages
