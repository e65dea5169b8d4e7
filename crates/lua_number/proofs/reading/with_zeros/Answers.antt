use Rattle.lua_number.proofs.Digits.{none_with_zeros}
use Rattle.lua_number.proofs.reading.with_zeros.Goals as goal

pub returns-in-None : goal.returns-in-None
returns-in-None c = λ n. none_with_zeros _ c.in-None.is n c.args.zeros
