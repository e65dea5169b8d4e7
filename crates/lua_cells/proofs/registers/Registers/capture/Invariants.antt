use Rattle.std.proofs.Common.{◌≡◌, map, drop}
use Rattle.lua_code.specs.Seen.{place_seen}
use Rattle.lua_cells.specs.Registers.{all_captured}
use Rattle.lua_cells.proofs.registers.Registers.capture.Given as goal

abbrev pub invariant-loop-place : goal.invariant-loop-place
invariant-loop-place l = all_captured (map place_seen (drop l.place-index l.places)) l.self ≡ all_captured (map place_seen l.places) l.initial.self
