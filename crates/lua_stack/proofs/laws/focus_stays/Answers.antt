use Rattle.lua_stack.proofs.StayLaws.{focus_stays}
use Rattle.lua_stack.proofs.laws.focus_stays.Goals as goal

pub returns : goal.returns
returns c = focus_stays
