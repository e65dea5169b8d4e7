use Rattle.wiki_pages.specs.Forests.{nodes_in, trees_in}
use Rattle.wiki_pages.proofs.ForestLaws.{all_between}
use Rattle.wiki_pages.proofs.forest.Forest.all.Goals as goal

pub returns : goal.returns
unfolding trees_in
returns c = record { trees = all_between (nodes_in c.args.nodes) _ c.len-end.ensures }
