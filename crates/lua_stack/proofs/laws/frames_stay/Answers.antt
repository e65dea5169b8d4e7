use Rattle.lua_stack.proofs.StayLaws.{frames_stay}
use Rattle.lua_stack.proofs.laws.frames_stay.Goals as goal

pub returns : goal.returns
returns c = frames_stay
