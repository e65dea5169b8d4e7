use Rattle.std.proofs.Common.{length, ap}
use Rattle.wiki_markup.specs.Nodes.{Marked}
use Rattle.wiki_markup.proofs.HeldLaws.{count_is}
use Rattle.wiki_markup.proofs.marked.Marked.len.Goals as goal

pub returns : goal.returns
returns c = count_is _ _ _ _ (ap (λ (m : Marked). m.nodes) c.self.view_is) (ap length c.as_slice.ensures)
