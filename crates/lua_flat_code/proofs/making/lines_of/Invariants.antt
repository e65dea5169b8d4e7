use Rattle.std.proofs.Common.{◌≡◌, ◌++◌, map, drop}
use Rattle.lua_flat_code.specs.Making.{line_of}
use Rattle.lua_flat_code.proofs.making.lines_of.Given as goal

abbrev pub invariant-loop-one : goal.invariant-loop-one
invariant-loop-one l = l.list ++ map line_of (drop l.one-index l.lined) ≡ map line_of l.lined
