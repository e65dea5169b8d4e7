use Rattle.std.proofs.Common.{drop}
use Rattle.lua_scopes.specs.Spots.{IsGivenSoFar}
use Rattle.lua_scopes.proofs.level.give_back.Given as goal

abbrev pub invariant-loop-capture : goal.invariant-loop-capture
invariant-loop-capture l = IsGivenSoFar l.captures (drop l.capture-index l.captures) l.initial.spots.entries l.spots.entries
