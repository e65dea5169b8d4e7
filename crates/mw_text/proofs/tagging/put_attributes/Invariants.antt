use Rattle.std.proofs.Common.{◌≡◌, ◌++◌, length}
use Rattle.mw_text.specs.Tag.{attributes}
use Rattle.mw_text.proofs.tagging.put_attributes.Given as goal

abbrev pub invariant-attrs : goal.invariant-attrs
invariant-attrs l = l.made.items ++ attributes l.rest ≡ l.initial.made.items ++ attributes l.initial.rest

abbrev pub decreases-attrs : goal.decreases-attrs
decreases-attrs l = length l.rest
