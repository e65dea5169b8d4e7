use Rattle.std.proofs.Common.{length, chars}
use Rattle.mw_text.specs.Sets.{member}
use Rattle.mw_text.specs.References.{is_special, encoded_point}
use Rattle.mw_text.proofs.Loops.{Encodes}
use denote.Shadow.{shadow}
use denote.Text.{Utf8}
use Rattle.mw_text.proofs.references.encode_points.Given as goal

abbrev pub invariant-points : goal.invariant-points
invariant-points l = Encodes (encoded_point (member is_special l.fn.set)) l.fn.budget l.left (chars l.fn.text) (chars l.rest) l.made.items × shadow (Utf8 l.rest)

abbrev pub decreases-points : goal.decreases-points
decreases-points l = length (chars l.rest)
