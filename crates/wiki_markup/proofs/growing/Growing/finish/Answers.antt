use Rattle.std.proofs.Common.{◌∙◌}
use Rattle.wiki_markup.proofs.HeldLaws.{finished}
use Rattle.wiki_markup.proofs.growing.Growing.finish.Goals as goal

pub returns : goal.returns
returns c = c.of.ensures ∙ finished _ _ c.self.inside.kept.items _ _ c.self.view_is c.shrink.ensures c.in_ok-nodes.ensures
