use Rattle.lua_flat_code.proofs.ValueLaws.{there_constant_said}
use Rattle.lua_flat_code.proofs.maker.Maker.constant_there.Goals as goal

pub returns : goal.returns
returns c = there_constant_said _ _ _ _ c.in_ok-operand.ensures
