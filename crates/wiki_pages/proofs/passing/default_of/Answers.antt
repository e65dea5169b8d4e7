use Rattle.wiki_pages.specs.Forests.{nodes_in}
use Rattle.wiki_pages.proofs.TableLaws.{stretch_trees}
use Rattle.wiki_pages.proofs.passing.default_of.Goals as goal

pub returns-in_ok-default-in-Some-clause-trees : goal.returns-in_ok-default-in-Some-clause-trees
returns-in_ok-default-in-Some-clause-trees c =
    rw c.in-Some.is (λ d. stretch_trees c.in_ok-default-in-Some.default (nodes_in c.args.run.now.nodes) c.in-Some.stretch.start c.in-Some.stretch.end c.in_ok-default-in-Some.ensures.nodes c.in_ok-default-in-Some.ensures.at c.in_ok-default-in-Some.ensures.end)
