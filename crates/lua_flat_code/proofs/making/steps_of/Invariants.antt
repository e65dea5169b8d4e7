use Rattle.std.proofs.Common.{◌≡◌, ◌++◌, map, drop}
use Rattle.lua_flat_code.specs.Making.{step_of}
use Rattle.lua_flat_code.proofs.making.steps_of.Given as goal

abbrev pub invariant-loop-one : goal.invariant-loop-one
invariant-loop-one l = l.list ++ map step_of (drop l.one-index l.lined) ≡ map step_of l.lined
