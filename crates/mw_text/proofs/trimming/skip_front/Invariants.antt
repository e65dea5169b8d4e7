use Rattle.std.proofs.Common.{length, chars}
use Rattle.mw_text.specs.Sets.{member}
use Rattle.mw_text.specs.Trim.{is_space}
use Rattle.mw_text.proofs.Loops.{Looks}
use denote.Shadow.{shadow}
use denote.Text.{Utf8}
use Rattle.mw_text.proofs.trimming.skip_front.Given as goal

abbrev pub invariant-points : goal.invariant-points
invariant-points l = Looks (member is_space l.fn.set) l.initial.left l.left (chars l.initial.rest) (chars l.rest) × shadow (Utf8 l.rest)

abbrev pub decreases-points : goal.decreases-points
decreases-points l = length (chars l.rest)
