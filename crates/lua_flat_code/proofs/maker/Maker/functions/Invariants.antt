use Rattle.std.proofs.Common.{drop}
use Rattle.lua_flat_code.specs.Making.{state_of}
use Rattle.lua_flat_code.specs.Whole.{FunctionsSoFar}
use Rattle.lua_flat_code.proofs.maker.Maker.functions.Given as goal

abbrev pub invariant-loop-proto : goal.invariant-loop-proto
invariant-loop-proto l = FunctionsSoFar l.protos (drop l.proto-index l.protos) (state_of l.initial.self) (state_of l.self) l.list
