use Rattle.std.proofs.Common.{◌≡◌, length}
use Rattle.case_text.specs.Escapes.{behind}
use Rattle.case_text.proofs.escapes.behind.Given as goal

abbrev pub invariant-loop-text : goal.invariant-loop-text
invariant-loop-text l = behind l.byte l.text ≡ behind l.byte l.fn.text

abbrev pub decreases-loop-text : goal.decreases-loop-text
decreases-loop-text l = length l.text
