use Rattle.std.proofs.Common.{◌≡◌, ◌++◌}
use Rattle.case_text.specs.Escapes.{copies, repeated}
use Rattle.case_text.proofs.escapes.add_copies.Given as goal

abbrev pub invariant-loop-left : goal.invariant-loop-left
invariant-loop-left l = l.bytes.items ++ copies l.left l.copy ≡ l.initial.bytes.items ++ repeated l.fn.text

abbrev pub decreases-loop-left : goal.decreases-loop-left
decreases-loop-left l = l.left
