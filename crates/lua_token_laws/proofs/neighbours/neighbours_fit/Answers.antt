use Rattle.lua_token_laws.proofs.Chunks.{neighbours_fit}
use Rattle.lua_token_laws.proofs.neighbours.neighbours_fit.Goals as goal

pub returns : goal.returns
returns c = neighbours_fit
