use Rattle.lua_goes.proofs.Counts.{calls_are_back}
use Rattle.lua_goes.proofs.laws.calls_are_back.Goals as goal

pub returns : goal.returns
returns c = calls_are_back
