use Rattle.case_text.proofs.CopyLemmas.{one_copy}
use Rattle.case_text.proofs.escapes.add_copies.Goals as goal

pub loop-left-preserved : goal.loop-left-preserved
loop-left-preserved c =
    one_copy c.behind-copy.result.now c.loop-left.bytes.items _ _ c.loop-left.left c.loop-left-test.true c.in_ok-extend_from_slice.ensures.items c.loop-left.invariant
