use Rattle.lua_number.specs.Numerals.{numeral_of}
use Rattle.lua_number.proofs.Digits.{number_read}
use Rattle.lua_number.proofs.reading.read_number.Goals as goal

pub returns : goal.returns
returns c =
    number_read c.args.text.now c.trim-text.result.now c.unsigned.result.now c.is_minus.result _ c.trim-text.ensures c.unsigned.ensures c.is_minus.ensures (c.with_sign.ensures (numeral_of c.unsigned.result.now) c.numeral.ensures)
