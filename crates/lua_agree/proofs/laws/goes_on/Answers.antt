use Rattle.lua_agree.proofs.Moves.{goes_on}
use Rattle.lua_agree.proofs.laws.goes_on.Goals as goal

pub returns : goal.returns
returns c = goes_on
