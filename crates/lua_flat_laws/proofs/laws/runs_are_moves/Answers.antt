use Rattle.lua_flat_laws.proofs.Alone.{runs_are_moves}
use Rattle.lua_flat_laws.proofs.laws.runs_are_moves.Goals as goal

pub returns : goal.returns
returns c = runs_are_moves
