use Rattle.std.proofs.Common.{◌∙◌}
use Rattle.lua_number.specs.Numerals.{digits_of_base}
use Rattle.lua_number.proofs.Digits.{base_ten, base_read}
use Rattle.lua_number.proofs.reading.read_in_base.Goals as goal

pub returns-then-base-eq10 : goal.returns-then-base-eq10
returns-then-base-eq10 c = c.read_number.ensures ∙ base_ten c.args.text.now c.args.base c.if-base-eq10.true

pub returns : goal.returns
returns c =
    base_read c.args.base c.args.text.now c.trim-text.result.now c.unsigned.result.now c.is_minus.result _ c.if-base-eq10.false c.trim-text.ensures c.unsigned.ensures c.is_minus.ensures (c.with_sign.ensures (digits_of_base c.args.base c.unsigned.result.now) c.digits_of_base.ensures)
