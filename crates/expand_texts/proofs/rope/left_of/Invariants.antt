use Rattle.std.proofs.Common.{◌≡◌, ◌+◌, length}
use Rattle.expand_texts.specs.Ropes.{joined}
use Rattle.expand_texts.proofs.rope.left_of.Given as goal

abbrev pub invariant-loop-pieces : goal.invariant-loop-pieces
invariant-loop-pieces l = l.rest + length (joined l.initial.pieces) ≡ l.bytes + length (joined l.pieces)

abbrev pub decreases-loop-pieces : goal.decreases-loop-pieces
decreases-loop-pieces l = length l.pieces
