use Rattle.std.proofs.Common.{length}
use Rattle.mw_text.specs.Decode.{decoded}
use Rattle.mw_ustrings.specs.MwFramesCosts.{SoFar}
use Rattle.mw_texts.proofs.paying.pay_decoded.Given as goal

abbrev pub invariant-bytes : goal.invariant-bytes
invariant-bytes l = SoFar l.initial.left l.left (length (decoded l.rest)) (length (decoded l.s))

abbrev pub decreases-bytes : goal.decreases-bytes
decreases-bytes l = length l.rest
