use Rattle.lua_stack.proofs.StayLaws.{activations_stay}
use Rattle.lua_stack.proofs.laws.activations_stay.Goals as goal

pub returns : goal.returns
returns c = activations_stay
