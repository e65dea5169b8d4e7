use Rattle.lua_meaning.proofs.MeaningLaws.{more_changes_nothing}
use Rattle.lua_meaning.proofs.laws.more_changes_nothing.Goals as goal

-- src/laws.rt
pub returns : goal.returns
returns c = more_changes_nothing
