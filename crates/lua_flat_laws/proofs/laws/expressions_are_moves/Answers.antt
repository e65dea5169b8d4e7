use Rattle.lua_flat_laws.proofs.Given.{expressions_are_moves}
use Rattle.lua_flat_laws.proofs.laws.expressions_are_moves.Goals as goal

pub returns : goal.returns
returns c = expressions_are_moves
