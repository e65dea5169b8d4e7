use Rattle.std.proofs.Common.{◌≡◌, ◌++◌, length}
use Rattle.expand_texts.specs.Ropes.{joined}
use Rattle.expand_texts.proofs.rope.append_pieces.Given as goal

abbrev pub invariant-loop-pieces : goal.invariant-loop-pieces
invariant-loop-pieces l = l.out.items ++ joined l.pieces ≡ l.initial.out.items ++ joined l.initial.pieces

abbrev pub decreases-loop-pieces : goal.decreases-loop-pieces
decreases-loop-pieces l = length l.pieces
