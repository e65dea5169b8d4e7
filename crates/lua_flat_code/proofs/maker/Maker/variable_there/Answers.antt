use Rattle.lua_flat_code.proofs.ValueLaws.{there_plain}
use Rattle.lua_flat_code.proofs.maker.Maker.variable_there.Goals as goal

pub returns-in_ok-operand-in-Register : goal.returns-in_ok-operand-in-Register
returns-in_ok-operand-in-Register c = there_plain _ _ _ _ _ c.in-Register.is c.in_ok-register-in-Register.ensures c.in_ok-operand-in-Register.ensures.1 c.in_ok-operand-in-Register.ensures.0
