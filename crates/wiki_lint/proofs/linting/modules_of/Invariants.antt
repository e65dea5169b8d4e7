use Rattle.std.proofs.Common.{drop}
use Rattle.lua_lint.specs.Reading.{modules_seen}
use Rattle.wiki_lint.specs.Trees.{HasRest}
use Rattle.wiki_lint.proofs.linting.modules_of.Given as goal

abbrev pub invariant-loop-page : goal.invariant-loop-page
invariant-loop-page l = HasRest l.pages (modules_seen l.modules) (drop l.page-index l.pages)
