use Rattle.std.proofs.Common.{length}
use Rattle.mw_text.proofs.Numbers.{Reads}
use Rattle.mw_text.proofs.decoding.digits.Given as goal

abbrev pub invariant-digits : goal.invariant-digits
invariant-digits l = Reads l.fn.radix l.initial.rest l.rest l.number

abbrev pub decreases-digits : goal.decreases-digits
decreases-digits l = length l.rest
