use Rattle.std.proofs.Common.{◌≡◌, length}
use Rattle.lua_string.specs.Whole.{greatest}
use Rattle.lua_string.proofs.math.greatest.Given as goal

abbrev pub invariant-others : goal.invariant-others
invariant-others l = greatest l.most l.left ≡ greatest l.initial.most l.initial.left

abbrev pub decreases-others : goal.decreases-others
decreases-others l = length l.left
