use Rattle.lua_flat_laws.proofs.Blocks.{tests_are_moves}
use Rattle.lua_flat_laws.proofs.laws.tests_are_moves.Goals as goal

pub returns : goal.returns
returns c = tests_are_moves
