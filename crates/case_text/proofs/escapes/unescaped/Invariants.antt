use Rattle.std.proofs.Common.{◌≡◌, ◌++◌, length}
use Rattle.case_text.specs.Escapes.{unescaped, unescaped_after}
use Rattle.case_text.proofs.escapes.unescaped.Given as goal

abbrev pub invariant-loop-left : goal.invariant-loop-left
invariant-loop-left l = l.bytes.items ++ unescaped_after l.passed l.left ≡ unescaped l.fn.text

abbrev pub decreases-loop-left : goal.decreases-loop-left
decreases-loop-left l = length l.left
