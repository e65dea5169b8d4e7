use Rattle.lua_flat_laws.proofs.Returns.{returns_are_moves}
use Rattle.lua_flat_laws.proofs.laws.returns_are_moves.Goals as goal

pub returns : goal.returns
returns c = returns_are_moves
