use Rattle.lua_stack.proofs.StayLaws.{registers_stay}
use Rattle.lua_stack.proofs.laws.registers_stay.Goals as goal

pub returns : goal.returns
returns c = registers_stay
