use Rattle.std.proofs.Common.{map, drop}
use Rattle.lua_code.specs.Seen.{place_seen}
use Rattle.lua_flat_code.specs.Making.{state_of, OriginsSoFar}
use Rattle.lua_flat_code.proofs.maker.Maker.captures.Given as goal

abbrev pub invariant-loop-place : goal.invariant-loop-place
invariant-loop-place l = OriginsSoFar (map place_seen l.places) (map place_seen (drop l.place-index l.places)) (state_of l.initial.self) (state_of l.self)
