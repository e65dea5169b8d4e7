use Rattle.std.proofs.Common.{length, chars, reverse}
use Rattle.mw_text.specs.Sets.{member}
use Rattle.mw_text.specs.Trim.{is_space}
use Rattle.mw_text.proofs.Loops.{Looks}
use denote.Shadow.{shadow}
use denote.Text.{Utf8}
use Rattle.mw_text.proofs.trimming.skip_back.Given as goal

abbrev pub invariant-points : goal.invariant-points
invariant-points l = Looks (member is_space l.fn.set) l.initial.left l.left (reverse (chars l.initial.rest)) (reverse (chars l.rest)) × shadow (Utf8 l.rest)

abbrev pub decreases-points : goal.decreases-points
decreases-points l = length (reverse (chars l.rest))
