use Rattle.std.proofs.Common.{arith}
use Rattle.std.proofs.lemmas.List.{length-reverse}
use Rattle.wiki_markup.proofs.HeldLaws.{before_count}
use Rattle.wiki_markup.proofs.growing.Growing.len.Goals as goal

pub returns : goal.returns
returns c = before_count _ _ _ _ c.self.view_is (omega (arith, length-reverse c.self.inside.kept.items))
