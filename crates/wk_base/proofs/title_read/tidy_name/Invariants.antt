use Rattle.std.proofs.Common.{◌≡◌, ◌++◌, length}
use Rattle.wk_base.specs.Titles.{with_spaces, squeeze}
use Rattle.wk_base.proofs.title_read.tidy_name.Given as goal

abbrev pub invariant-loop-left : goal.invariant-loop-left
invariant-loop-left l = l.name.items ++ squeeze (with_spaces l.left) ≡ squeeze (with_spaces l.initial.left)

abbrev pub decreases-loop-left : goal.decreases-loop-left
decreases-loop-left l = length l.left
