use Rattle.std.proofs.Common.{length}
use Rattle.mw_ustrings.specs.MwFramesCosts.{SoFar}
use Rattle.mw_ustrings.specs.LuaMeaningTexts.{parts_charge}
use Rattle.mw_texts.proofs.splitting.pay_parts.Given as goal

abbrev pub invariant-each : goal.invariant-each
invariant-each l = SoFar l.initial.left l.left (parts_charge l.rest) (parts_charge l.parts)

abbrev pub decreases-each : goal.decreases-each
decreases-each l = length l.rest
