use Rattle.std.proofs.Common.{◌≡◌, ◌++◌, length}
use Rattle.mw_text.specs.Joined.{joined}
use Rattle.mw_text.proofs.joining.list_to_text.Given as goal

abbrev pub invariant-items : goal.invariant-items
invariant-items l = l.made.items ++ joined l.sep l.conj l.rest ≡ joined l.sep l.conj l.initial.rest

abbrev pub decreases-items : goal.decreases-items
decreases-items l = length l.rest
