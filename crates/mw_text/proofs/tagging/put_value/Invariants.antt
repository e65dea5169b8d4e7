use Rattle.std.proofs.Common.{◌≡◌, ◌++◌, length}
use Rattle.mw_text.specs.Tag.{encode_behind}
use Rattle.mw_text.proofs.tagging.put_value.Given as goal

abbrev pub invariant-bytes : goal.invariant-bytes
invariant-bytes l = l.made.items ++ encode_behind l.before l.rest ≡ l.initial.made.items ++ encode_behind 0 l.initial.rest

abbrev pub decreases-bytes : goal.decreases-bytes
decreases-bytes l = length l.rest
