use Rattle.std.proofs.Common.{◌∙◌, ap, length, length-append}
use Rattle.mw_frames.specs.LuaMeaningTag.{encode, encode_behind, encode_byte}
use Rattle.mw_frames.proofs.Sums.{took-more}
use Rattle.mw_frame_texts.proofs.costs.pay_value.Goals as goal

pub bytes-preserved : goal.bytes-preserved
bytes-preserved c =
    let byte = c.in-Some.byte in
    let behind = c.in-Some.behind.now in
    let written = encode_byte c.bytes.before byte behind in
    let step = rw c.byte_cost.ensures at c.in_ok-pay.ensures in
    took-more c.args.left.now c.bytes.left c.pay.new.left (length (encode_behind c.bytes.before c.bytes.rest.now)) (length (encode_behind byte behind)) (length (encode c.args.value.now)) (length written)
    c.bytes.invariant (ap (λ cs. length (encode_behind c.bytes.before cs)) c.in-Some.ensures ∙ length-append written (encode_behind byte behind)) step
