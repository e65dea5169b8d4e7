use Rattle.lua_flat_laws.proofs.Away.{library_is_moves}
use Rattle.lua_flat_laws.proofs.laws.library_is_moves.Goals as goal

pub returns : goal.returns
returns c = library_is_moves
