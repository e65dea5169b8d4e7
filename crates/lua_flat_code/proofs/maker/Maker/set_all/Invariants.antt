use Rattle.std.proofs.Common.{length}
use Rattle.lua_flat_code.specs.Making.{state_of}
use Rattle.lua_flat_code.specs.Targets.{SetsSoFar}
use Rattle.lua_flat_code.proofs.maker.Maker.set_all.Given as goal

abbrev pub invariant-targets : goal.invariant-targets
invariant-targets l = SetsSoFar l.found l.left l.first (state_of l.initial.self) (state_of l.self)

abbrev pub decreases-targets : goal.decreases-targets
decreases-targets l = length l.left
