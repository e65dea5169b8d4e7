use Rattle.std.proofs.lemmas.Slice.Eq.{slice_eq-Decides}
use Rattle.wiki_markup.proofs.ShownSame.{span_decides}
use Rattle.wiki_markup.proofs.marked.same_spans.Goals as goal

pub returns : goal.returns
returns c = slice_eq-Decides span_decides _ _ _ c.eq.ensures
