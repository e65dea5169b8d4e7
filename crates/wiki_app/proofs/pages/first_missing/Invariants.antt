use Rattle.std.proofs.Common.{◌≡◌, drop}
use Rattle.wiki_app.specs.Pages.{first_missing}
use Rattle.wiki_app.proofs.pages.first_missing.Given as goal

abbrev pub invariant-loop-title : goal.invariant-loop-title
invariant-loop-title l = first_missing l.pages (drop l.title-index l.titles) ≡ first_missing l.pages l.titles
