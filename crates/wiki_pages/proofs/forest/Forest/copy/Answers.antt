use Rattle.std.proofs.Common.{sym}
use Rattle.wiki_pages.specs.Forests.{trees_in}
use Rattle.wiki_pages.proofs.ForestLaws.{stretch_is}
use Rattle.wiki_pages.proofs.forest.Forest.copy.Goals as goal

pub returns-clause-trees : goal.returns-clause-trees
unfolding trees_in
returns-clause-trees c = sym (stretch_is c.args.self.now c.in_ok-copy.copy _ _ c.in_ok-copy.ensures.nodes c.in_ok-copy.ensures.at c.in_ok-copy.ensures.end)
