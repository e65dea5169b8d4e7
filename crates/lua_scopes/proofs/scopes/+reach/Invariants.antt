use Rattle.std.proofs.Common.{length}
use Rattle.lua_scopes.proofs.scopes.+reach.Given as goal

abbrev pub decreases-reach : goal.decreases-reach
decreases-reach c = length c.outer.now
