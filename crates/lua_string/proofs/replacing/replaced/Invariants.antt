use Rattle.std.proofs.Common.{◌≡◌, Ok, length}
use Rattle.lua_string.specs.Replacements.{replaced_of, put}
use Rattle.lua_string.proofs.replacing.replaced.Given as goal

abbrev pub invariant-heads : goal.invariant-heads
invariant-heads l = put (Ok l.made.items) (replaced_of l.whole l.captures l.rest) ≡ replaced_of l.whole l.captures l.initial.rest

abbrev pub decreases-heads : goal.decreases-heads
decreases-heads l = length l.rest
