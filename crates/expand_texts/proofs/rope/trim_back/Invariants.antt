use Rattle.std.proofs.Common.{◌≡◌, length}
use Rattle.wk_base.specs.Space.{trim_end}
use Rattle.expand_texts.specs.Ropes.{joined}
use Rattle.expand_texts.proofs.rope.trim_back.Given as goal

abbrev pub invariant-loop-last : goal.invariant-loop-last
invariant-loop-last l = trim_end (joined l.pieces.items) ≡ trim_end (joined l.initial.pieces.items)

abbrev pub decreases-loop-last : goal.decreases-loop-last
decreases-loop-last l = length l.pieces.items
