use Rattle.std.proofs.Common.{arith}
use Rattle.wiki_pages.proofs.ForestLaws.{over_is}
use Rattle.wiki_pages.proofs.forest.Forest.none.Goals as goal

pub returns-clause-trees : goal.returns-clause-trees
returns-clause-trees c = over_is c.in_ok-none.none (omega (arith, c.in_ok-none.ensures.at, c.in_ok-none.ensures.end))
