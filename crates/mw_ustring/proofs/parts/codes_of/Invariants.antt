use Rattle.std.proofs.Common.{◌≡◌}
use Rattle.mw_ustring.proofs.parts.codes_of.Given as goal

abbrev pub invariant-loop-point : goal.invariant-loop-point
invariant-loop-point l = l.codes ≡ l.yielded
