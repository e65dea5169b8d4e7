use Rattle.std.proofs.Common.{◌≡◌, drop}
use Rattle.lua_cells.specs.Registers.{opened}
use Rattle.lua_cells.proofs.watch.Watch.open.Given as goal

abbrev pub invariant-loop-boxed : goal.invariant-loop-boxed
invariant-loop-boxed l = opened (drop l.boxed-index l.flags) l.self ≡ opened l.flags l.initial.self
