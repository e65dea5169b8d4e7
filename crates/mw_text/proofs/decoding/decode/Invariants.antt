use Rattle.std.proofs.Common.{◌≡◌, ◌++◌, length}
use Rattle.mw_text.specs.Decode.{decoded}
use Rattle.mw_text.proofs.decoding.decode.Given as goal

abbrev pub invariant-bytes : goal.invariant-bytes
invariant-bytes l = l.made.items ++ decoded l.rest ≡ decoded l.initial.rest

abbrev pub decreases-bytes : goal.decreases-bytes
decreases-bytes l = length l.rest
