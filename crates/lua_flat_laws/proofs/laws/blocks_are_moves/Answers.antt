use Rattle.lua_flat_laws.proofs.Blocks.{blocks_are_moves}
use Rattle.lua_flat_laws.proofs.laws.blocks_are_moves.Goals as goal

pub returns : goal.returns
returns c = blocks_are_moves
