use Rattle.std.proofs.Common.{◌∙◌, ap, slice_get}
use Rattle.wiki_markup.specs.Nodes.{Marked}
use Rattle.wiki_pages.proofs.ForestLaws.{over_is, past_is}
use Rattle.wiki_pages.proofs.forest.Forest.split.Goals as goal

pub returns-then-self-clause-splits : goal.returns-then-self-clause-splits
returns-then-self-clause-splits c = over_is c.args.self.now c.if-self.true

pub returns-in-None-clause-splits : goal.returns-in-None-clause-splits
returns-in-None-clause-splits c = past_is c.args.self.now _ c.in-Held.is c.in-None.ensures

pub returns-in-None-node-clause-splits : goal.returns-in-None-node-clause-splits
returns-in-None-node-clause-splits c = past_is c.args.self.now _ c.in-Own.is (c.in-None-node.ensures ∙ ap (λ (m : Marked). slice_get m.nodes c.args.self.now.at) c.as_ref.ensures)
