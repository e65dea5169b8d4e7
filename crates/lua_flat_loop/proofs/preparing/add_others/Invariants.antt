use Rattle.std.proofs.Common.{◌≡◌, ◌++◌, map, drop}
use Rattle.lua_flat_loop.specs.Preparing.{constant_value}
use Rattle.lua_flat_loop.proofs.preparing.add_others.Given as goal

abbrev pub invariant-loop-constant : goal.invariant-loop-constant
invariant-loop-constant l = l.values ++ map constant_value (drop l.constant-index l.constants) ≡ l.fn.values ++ map constant_value l.constants
