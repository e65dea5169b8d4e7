use Rattle.lua_lint_laws.proofs.Missed.{none_is_missed}
use Rattle.lua_lint_laws.proofs.laws.none_is_missed.Goals as goal

pub returns : goal.returns
returns c = none_is_missed
