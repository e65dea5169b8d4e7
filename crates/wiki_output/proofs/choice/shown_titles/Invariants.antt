use Rattle.std.proofs.Common.{◌≡◌, ◌++◌, drop}
use Rattle.wiki_output.specs.Choice.{shown_titles}
use Rattle.wiki_output.proofs.choice.shown_titles.Given as goal

abbrev pub invariant-loop-page : goal.invariant-loop-page
invariant-loop-page l = l.titles ++ shown_titles (drop l.page-index l.pages) ≡ shown_titles l.pages
