use Rattle.std.proofs.Common.{◌∙◌, ap, sym}
use Rattle.lua_number.specs.Numerals.{natural}
use Rattle.lua_number.specs.Words.{in_word}
use Rattle.lua_number.proofs.Digits.{numeral_hex, numeral_decimal}
use Rattle.lua_number.proofs.reading.numeral.Goals as goal

pub returns-then-has_hex_mark : goal.returns-then-has_hex_mark
returns-then-has_hex_mark c =
    c.natural.ensures ∙ ap (λ t. in_word (natural 16 t)) c.behind_mark.ensures ∙ ap in_word (numeral_hex c.args.text.now (sym c.has_hex_mark.ensures ∙ c.if-has_hex_mark.true))

pub returns-else-has_hex_mark : goal.returns-else-has_hex_mark
returns-else-has_hex_mark c = c.decimal.ensures ∙ ap in_word (numeral_decimal c.args.text.now (sym c.has_hex_mark.ensures ∙ c.if-has_hex_mark.false))
