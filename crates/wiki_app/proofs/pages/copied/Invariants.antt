use Rattle.std.proofs.Common.{◌≡◌, ◌++◌, drop}
use Rattle.wiki_app.proofs.pages.copied.Given as goal

abbrev pub invariant-loop-title : goal.invariant-loop-title
invariant-loop-title l = l.copied ++ drop l.title-index l.titles ≡ l.titles
