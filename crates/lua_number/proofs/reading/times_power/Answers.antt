use Rattle.lua_number.proofs.Digits.{power_large}
use Rattle.lua_number.proofs.reading.times_power.Goals as goal

pub returns-else-zeros-lt20 : goal.returns-else-zeros-lt20
returns-else-zeros-lt20 c = power_large _ _ c.if-value-eq0.false c.if-zeros-lt20.false
