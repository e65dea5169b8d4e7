use Rattle.lua_number.proofs.Operations.{even_power, odd_power}
use Rattle.lua_number.proofs.arithmetic.minus_one_power.Goals as goal

pub returns-then-exponent-eq0 : goal.returns-then-exponent-eq0
returns-then-exponent-eq0 c = even_power _ c.if-exponent-eq0.true

pub returns-else-exponent-eq0 : goal.returns-else-exponent-eq0
returns-else-exponent-eq0 c = odd_power _ c.if-exponent-eq0.false
