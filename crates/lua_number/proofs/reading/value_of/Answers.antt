use Rattle.lua_number.proofs.Digits.{both_none, both_some}
use Rattle.lua_number.proofs.reading.value_of.Goals as goal

pub returns-in-None : goal.returns-in-None
returns-in-None c = both_none c.args.front.now c.args.back.now c.in-None.ensures

pub returns-in-Some : goal.returns-in-Some
returns-in-Some c = both_some _ _ c.args.front.now c.args.back.now c.in-Some.ensures.1 c.digits_after-in-Some.ensures
