use Rattle.std.proofs.Common.{length}
use Rattle.mw_frames.specs.LuaMeaningTag.{encode, encode_behind}
use Rattle.mw_frames.specs.Costs.{SoFar}
use Rattle.mw_frame_texts.proofs.costs.pay_value.Given as goal

abbrev pub invariant-bytes : goal.invariant-bytes
invariant-bytes l = SoFar l.initial.left l.left (length (encode_behind l.before l.rest)) (length (encode l.value))

abbrev pub decreases-bytes : goal.decreases-bytes
decreases-bytes l = length l.rest
