use Rattle.lua_meaning.proofs.MeaningLaws.{tables_are_joined}
use Rattle.lua_meaning.proofs.laws.tables_are_joined.Goals as goal

-- src/laws.rt
pub returns : goal.returns
returns c = tables_are_joined
