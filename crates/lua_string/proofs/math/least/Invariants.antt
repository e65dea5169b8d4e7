use Rattle.std.proofs.Common.{◌≡◌, length}
use Rattle.lua_string.specs.Whole.{least}
use Rattle.lua_string.proofs.math.least.Given as goal

abbrev pub invariant-others : goal.invariant-others
invariant-others l = least l.fewest l.left ≡ least l.initial.fewest l.initial.left

abbrev pub decreases-others : goal.decreases-others
decreases-others l = length l.left
