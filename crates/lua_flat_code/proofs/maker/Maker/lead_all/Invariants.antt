use Rattle.std.proofs.Common.{drop}
use Rattle.lua_flat_code.specs.Making.{state_of, LedSoFar}
use Rattle.lua_flat_code.proofs.maker.Maker.lead_all.Given as goal

abbrev pub invariant-loop-at : goal.invariant-loop-at
invariant-loop-at l = LedSoFar l.jumps (drop l.at-index l.jumps) l.target (state_of l.initial.self) (state_of l.self)
