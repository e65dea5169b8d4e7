use Rattle.std.proofs.Common.{◌≡◌, ◌+◌, length, slice_get}
use Rattle.mw_ustring.specs.Texts.{begun}
use Rattle.mw_ustring.proofs.byte_places.begun_from.Given as goal

abbrev pub invariant-bytes : goal.invariant-bytes
invariant-bytes l = (slice_get (begun l.place l.rest) l.left ≡ slice_get (begun l.initial.place l.initial.rest) l.initial.left) × (l.place + length l.rest ≡ length l.fn.s)

abbrev pub decreases-bytes : goal.decreases-bytes
decreases-bytes l = length l.rest
