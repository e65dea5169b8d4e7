use Rattle.lua_number.specs.Numerals.{numeral_of}
use Rattle.lua_number.proofs.Digits.{numeral_read}
use Rattle.lua_number.proofs.reading.read_numeral.Goals as goal

pub returns : goal.returns
returns c = numeral_read c.args.text.now _ (c.with_sign.ensures (numeral_of c.args.text.now) c.numeral.ensures)
