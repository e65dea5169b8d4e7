use Rattle.lua_flat_laws.proofs.Turns.{turns_are_moves}
use Rattle.lua_flat_laws.proofs.laws.turns_are_moves.Goals as goal

pub returns : goal.returns
returns c = turns_are_moves
