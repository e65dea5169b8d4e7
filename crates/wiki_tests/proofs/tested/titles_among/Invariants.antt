use Rattle.std.proofs.Common.{◌≡◌, ◌++◌, drop, map}
use Rattle.std.specs.Prelude.{filter}
use Rattle.wiki_tests.specs.Tested.{is_test_title, title_in}
use Rattle.wiki_tests.proofs.tested.titles_among.Given as goal

abbrev pub invariant-loop-page : goal.invariant-loop-page
invariant-loop-page l = l.titles ++ filter is_test_title (map title_in (drop l.page-index l.pages)) ≡ filter is_test_title (map title_in l.pages)
