use Rattle.std.proofs.Common.{◌≡◌, length}
use Rattle.wk_base.specs.Space.{trim_start}
use Rattle.expand_texts.specs.Ropes.{joined}
use Rattle.expand_texts.proofs.rope.trim_front.Given as goal

abbrev pub invariant-loop-first : goal.invariant-loop-first
invariant-loop-first l = trim_start (joined l.pieces) ≡ trim_start (joined l.initial.pieces)

abbrev pub decreases-loop-first : goal.decreases-loop-first
decreases-loop-first l = length l.pieces
