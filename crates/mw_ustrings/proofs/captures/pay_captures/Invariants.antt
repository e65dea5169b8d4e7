use Rattle.std.proofs.Common.{length}
use Rattle.lua_pattern.specs.Sizes.{captures_bytes}
use Rattle.mw_frame_texts.specs.MwFramesCosts.{SoFar}
use Rattle.mw_ustrings.proofs.captures.pay_captures.Given as goal

abbrev pub invariant-each : goal.invariant-each
invariant-each l = SoFar l.initial.left l.left (captures_bytes l.rest) (captures_bytes l.captures)

abbrev pub decreases-each : goal.decreases-each
decreases-each l = length l.rest
