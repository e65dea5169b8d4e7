use Rattle.lua_flat_laws.proofs.Whole.{operations_are_moves}
use Rattle.lua_flat_laws.proofs.laws.operations_are_moves.Goals as goal

pub returns : goal.returns
returns c = operations_are_moves
