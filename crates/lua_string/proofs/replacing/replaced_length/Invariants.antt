use Rattle.std.proofs.Common.{length}
use Rattle.lua_string.specs.Replacements.{replaced_of}
use Rattle.lua_string.proofs.HeadLemmas.{Counts}
use Rattle.lua_string.proofs.replacing.replaced_length.Given as goal

abbrev pub invariant-heads : goal.invariant-heads
invariant-heads l = Counts l.len (replaced_of l.whole l.captures l.rest) (replaced_of l.whole l.captures l.initial.rest)

abbrev pub decreases-heads : goal.decreases-heads
decreases-heads l = length l.rest
