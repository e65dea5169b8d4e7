use Rattle.lua_flat_laws.proofs.Enters.{entering_is_moves}
use Rattle.lua_flat_laws.proofs.laws.entering_is_moves.Goals as goal

pub returns : goal.returns
returns c = entering_is_moves
