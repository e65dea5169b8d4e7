use Rattle.std.proofs.Common.{◌∙◌, sym}
use Rattle.lua_number.proofs.Digits.{decimal_some}
use Rattle.lua_number.proofs.reading.decimal_value.Goals as goal

pub returns-then-are_all_digits : goal.returns-then-are_all_digits
returns-then-are_all_digits c =
    decimal_some c.args.whole.now c.args.fraction.now _ _ _ c.requires c.in-Some.ensures (sym c.are_all_digits.ensures ∙ c.if-are_all_digits.true) c.whole_part.ensures
