use Rattle.expand_texts.proofs.RopeLaws.{same_behind}
use Rattle.expand_texts.proofs.rope.is.Goals as goal

pub loop-pieces-preserved : goal.loop-pieces-preserved
loop-pieces-preserved c =
    same_behind c.loop-pieces.pieces.now c.first-item.result c.loop-pieces.text.now c.in-Some.rest.now _ c.in-len1-up.len_at_least c.first-item.is
    (rw c.as_slice.ensures at c.in-Some.ensures.cases.0) (rw c.as_slice.ensures at c.in-Some.ensures.cases.1) c.loop-pieces.invariant
