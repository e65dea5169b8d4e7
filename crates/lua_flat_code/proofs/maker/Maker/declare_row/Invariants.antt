use Rattle.std.proofs.Common.{drop}
use Rattle.lua_flat_code.specs.Making.{state_of}
use Rattle.lua_flat_code.specs.Parts.{RowDeclaredSoFar}
use Rattle.lua_flat_code.proofs.maker.Maker.declare_row.Given as goal

abbrev pub invariant-loop-boxed : goal.invariant-loop-boxed
invariant-loop-boxed l = RowDeclaredSoFar l.register l.flags (drop l.boxed-index l.flags) (state_of l.fn.self) (state_of l.self) l.at
