use Rattle.std.proofs.Common.{◌≡◌, length}
use Rattle.mw_frame_texts.specs.LuaMeaningFrames.{arg_named}
use Rattle.mw_frame_calls.proofs.reading.arg_named.Given as goal

abbrev pub invariant-each : goal.invariant-each
invariant-each l = arg_named l.name l.left ≡ arg_named l.name l.args

abbrev pub decreases-each : goal.decreases-each
decreases-each l = length l.left
