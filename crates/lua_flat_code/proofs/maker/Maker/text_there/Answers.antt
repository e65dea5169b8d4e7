use Rattle.lua_flat_code.proofs.ValueLaws.{there_text_said}
use Rattle.lua_flat_code.proofs.maker.Maker.text_there.Goals as goal

pub returns : goal.returns
returns c = there_text_said _ _ _ c.in_ok-operand.ensures
