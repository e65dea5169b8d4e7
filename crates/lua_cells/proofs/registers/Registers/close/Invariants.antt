use Rattle.std.proofs.Common.{◌≡◌, length}
use Rattle.lua_cells.specs.Registers.{closed}
use Rattle.lua_cells.proofs.registers.Registers.close.Given as goal

abbrev pub invariant-loop-self : goal.invariant-loop-self
invariant-loop-self l = closed l.count l.self ≡ closed l.count l.initial.self

abbrev pub decreases-loop-self : goal.decreases-loop-self
decreases-loop-self l = length l.self.idle
