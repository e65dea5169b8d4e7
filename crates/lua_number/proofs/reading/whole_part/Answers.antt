use Rattle.std.proofs.Common.{◌∙◌, sym}
use Rattle.lua_number.proofs.Digits.{whole_value, no_whole_value}
use Rattle.lua_number.proofs.reading.whole_part.Goals as goal

pub returns-then-are_zeros_in : goal.returns-then-are_zeros_in
returns-then-are_zeros_in c =
    whole_value c.args.point c.args.whole.now c.args.fraction.now _ _ _ _ _ _ _ _ c.min-in_whole.ensures c.min-in_fraction.ensures c.split_at.ensures.front c.split_at.ensures.back c.split_at-2.ensures.front c.split_at-2.ensures.back (sym c.are_zeros_in.ensures ∙ c.if-are_zeros_in.true) c.value_of.ensures c.with_zeros.ensures

pub returns-else-are_zeros_in : goal.returns-else-are_zeros_in
returns-else-are_zeros_in c =
    no_whole_value c.args.point c.args.whole.now c.args.fraction.now _ _ _ _ c.min-in_whole.ensures c.min-in_fraction.ensures c.split_at.ensures.back c.split_at-2.ensures.back (sym c.are_zeros_in.ensures ∙ c.if-are_zeros_in.false)
