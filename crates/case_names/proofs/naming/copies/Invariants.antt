use Rattle.std.proofs.Common.{◌≡◌, ◌++◌, drop}
use Rattle.case_names.proofs.CaseLaws.{bytes_of}
use Rattle.case_names.proofs.naming.copies.Given as goal

abbrev pub invariant-loop-at : goal.invariant-loop-at
invariant-loop-at l = l.list ++ bytes_of (drop l.at l.met.keys) ≡ bytes_of l.met.keys
