use Rattle.lua_meaning.proofs.MeaningLaws.{things_unfold}
use Rattle.lua_meaning.proofs.laws.things_unfold.Goals as goal

-- src/laws.rt
pub returns : goal.returns
returns c = things_unfold
