use Rattle.std.proofs.Common.{◌≡◌, map}
use Rattle.wiki_app.specs.Pages.{raw_page}
use Rattle.wiki_app.proofs.pages.raw_pages.Given as goal

abbrev pub invariant-loop-page : goal.invariant-loop-page
invariant-loop-page l = l.raw ≡ map raw_page l.yielded
