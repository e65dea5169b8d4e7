use Rattle.std.proofs.Common.{map, drop}
use Rattle.lua_code.specs.Seen.{target_seen}
use Rattle.lua_flat_code.specs.Making.{state_of}
use Rattle.lua_flat_code.specs.Targets.{TargetsSoFar}
use Rattle.lua_flat_code.proofs.maker.Maker.targets.Given as goal

abbrev pub invariant-loop-target : goal.invariant-loop-target
invariant-loop-target l = TargetsSoFar l.free l.at (map target_seen l.targets) (map target_seen (drop l.target-index l.targets)) l.found (state_of l.initial.self) (state_of l.self)
