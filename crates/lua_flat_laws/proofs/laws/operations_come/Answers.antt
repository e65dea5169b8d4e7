use Rattle.lua_flat_laws.proofs.Whole.{operations_come}
use Rattle.lua_flat_laws.proofs.laws.operations_come.Goals as goal

pub returns : goal.returns
returns c = operations_come
