use Rattle.std.proofs.Common.{◌≡◌, drop}
use Rattle.wiki_fmt.specs.Due.{text_of}
use Rattle.wiki_fmt.proofs.answer.text_of.Given as goal

abbrev pub invariant-loop-page : goal.invariant-loop-page
invariant-loop-page l = text_of l.title (drop l.page-index l.pages) ≡ text_of l.title l.pages
