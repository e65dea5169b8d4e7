use Rattle.std.proofs.Common.{◌≡◌, ◌++◌, drop}
use Rattle.wiki_output.specs.Output.{stats_lines}
use Rattle.wiki_output.proofs.output.stats_if.Given as goal

abbrev pub invariant-loop-page : goal.invariant-loop-page
invariant-loop-page l = l.made.items ++ stats_lines (drop l.page-index l.pages) ≡ stats_lines l.pages
