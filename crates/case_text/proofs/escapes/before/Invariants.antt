use Rattle.std.proofs.Common.{◌≡◌, ◌++◌, take, drop}
use Rattle.case_text.specs.Escapes.{before}
use Rattle.case_text.proofs.escapes.before.Given as goal

abbrev pub invariant-loop-at : goal.invariant-loop-at
invariant-loop-at l = take l.at l.text ++ before l.byte (drop l.at l.text) ≡ before l.byte l.text
