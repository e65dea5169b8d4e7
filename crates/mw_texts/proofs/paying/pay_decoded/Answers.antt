use Rattle.std.proofs.Common.{length}
use Rattle.mw_text.specs.Decode.{head, decoded}
use Rattle.mw_ustrings.proofs.MwFramesSums.{took-more}
use Rattle.mw_texts.proofs.Lengths.{decoded_on}
use Rattle.mw_texts.proofs.paying.pay_decoded.Goals as goal

pub bytes-preserved : goal.bytes-preserved
bytes-preserved c =
    let byte = c.in-Some.byte in
    let behind = c.in-Some.behind.now in
    let more = c.head_cost-cost.result.1.now in
    let step = rw c.head_cost-cost.ensures.cost at c.in_ok-pay.ensures in
    took-more c.args.left.now c.bytes.left c.pay.new.left (length (decoded c.bytes.rest.now)) (length (decoded more)) (length (decoded c.args.s.now)) (length (head byte behind).0)
    c.bytes.invariant (decoded_on byte behind c.bytes.rest.now more c.in-Some.ensures c.head_cost-cost.ensures.rest) step
