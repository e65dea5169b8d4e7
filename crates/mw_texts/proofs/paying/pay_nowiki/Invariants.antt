use Rattle.std.proofs.Common.{length}
use Rattle.mw_text.specs.References.{nowiki_of}
use Rattle.mw_ustrings.specs.MwFramesCosts.{SoFar}
use Rattle.mw_texts.proofs.paying.pay_nowiki.Given as goal

abbrev pub invariant-bytes : goal.invariant-bytes
invariant-bytes l = SoFar l.initial.left l.left (length (nowiki_of l.rest)) (length (nowiki_of l.s))

abbrev pub decreases-bytes : goal.decreases-bytes
decreases-bytes l = length l.rest
