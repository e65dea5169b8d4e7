use Rattle.std.proofs.Common.{length}
use Rattle.lua_scopes.proofs.SpotLaws.{ClosedSoFar}
use Rattle.lua_scopes.proofs.level.Level.close.Given as goal

abbrev pub invariant-loop-self : goal.invariant-loop-self
invariant-loop-self l = ClosedSoFar l.count l.initial.self l.self l.initial.spots.entries l.spots.entries

abbrev pub decreases-loop-self : goal.decreases-loop-self
decreases-loop-self l = length l.self.variables
