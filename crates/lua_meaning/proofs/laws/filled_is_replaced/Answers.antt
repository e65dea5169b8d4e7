use Rattle.lua_meaning.proofs.GsubLaws.{filled-same}
use Rattle.lua_meaning.proofs.laws.filled_is_replaced.Goals as goal

-- src/laws.rt
pub returns : goal.returns
returns c = filled-same
