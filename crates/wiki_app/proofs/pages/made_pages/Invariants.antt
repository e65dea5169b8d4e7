use Rattle.std.proofs.Common.{◌≡◌, map}
use Rattle.wiki_app.specs.Pages.{made_page}
use Rattle.wiki_app.proofs.pages.made_pages.Given as goal

abbrev pub invariant-loop-page : goal.invariant-loop-page
invariant-loop-page l = l.made ≡ map (made_page l.limits) l.yielded
