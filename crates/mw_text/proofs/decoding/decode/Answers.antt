use Rattle.mw_text.specs.Decode.{decoded}
use Rattle.mw_text.proofs.Pieces.{decode_on}
use Rattle.mw_text.proofs.decoding.decode.Goals as goal

pub bytes-preserved : goal.bytes-preserved
bytes-preserved c =
    decode_on c.in-Some.byte c.in-Some.behind.now c.bytes.rest.now c.bytes.made.items c.put_head.new.made.items c.in_ok-rest.rest.now (decoded c.args.s.now)
    c.in-Some.ensures c.in_ok-rest.ensures.0 c.in_ok-rest.ensures.1 c.bytes.invariant
