use Rattle.std.proofs.Common.{◌≡◌, ◌≤◌, length, reverse, slice_get}
use Rattle.mw_ustring.specs.Texts.{begun}
use Rattle.mw_ustring.proofs.byte_places.begun_before.Given as goal

abbrev pub invariant-bytes : goal.invariant-bytes
invariant-bytes l = (slice_get (reverse (begun 0 l.front)) l.left ≡ slice_get (reverse (begun 0 l.initial.front)) l.initial.left) × (length l.front ≤ length l.fn.s)

abbrev pub decreases-bytes : goal.decreases-bytes
decreases-bytes l = length l.front
