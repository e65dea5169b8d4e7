use Rattle.lua_number.proofs.Digits.{decimal_parts}
use Rattle.lua_number.proofs.reading.decimal.Goals as goal

pub returns : goal.returns
returns c =
    decimal_parts c.args.text.now _ _ _ _ _ _ c.round_exponent_mark-text.ensures.front c.round_exponent_mark-text.ensures.back c.round_point-mantissa.ensures.front c.round_point-mantissa.ensures.back c.or_empty.ensures c.decimal_value.ensures
