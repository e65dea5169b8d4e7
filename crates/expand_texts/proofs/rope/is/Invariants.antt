use Rattle.std.proofs.Common.{◌≡◌, length, bytes_eq}
use Rattle.expand_texts.specs.Ropes.{joined}
use Rattle.expand_texts.proofs.rope.is.Given as goal

abbrev pub invariant-loop-pieces : goal.invariant-loop-pieces
invariant-loop-pieces l = bytes_eq (joined l.pieces) l.text ≡ bytes_eq (joined l.initial.pieces) l.initial.text

abbrev pub decreases-loop-pieces : goal.decreases-loop-pieces
decreases-loop-pieces l = length l.pieces
