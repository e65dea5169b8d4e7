use Rattle.lua_meaning.proofs.MeaningLaws.{calls_are_given_back}
use Rattle.lua_meaning.proofs.laws.calls_are_given_back.Goals as goal

-- src/laws.rt
pub returns : goal.returns
returns c = calls_are_given_back
