use Rattle.std.proofs.Common.{◌≡◌, length}
use Rattle.wk_base.specs.Space.{trim_end}
use Rattle.wk_base.specs.Titles.{with_spaces}
use Rattle.wk_base.proofs.title_read.trim_end.Given as goal

abbrev pub invariant-loop-text : goal.invariant-loop-text
invariant-loop-text l = trim_end (with_spaces l.text) ≡ trim_end (with_spaces l.fn.text)

abbrev pub decreases-loop-text : goal.decreases-loop-text
decreases-loop-text l = length l.text
