use Rattle.std.proofs.Common.{◌∙◌, ap, sym}
use Rattle.lua_number.specs.Numerals.{natural}
use Rattle.lua_number.specs.Words.{in_word}
use Rattle.lua_number.proofs.Digits.{base_marked, base_plain}
use Rattle.lua_number.proofs.reading.digits_of_base.Goals as goal

pub returns-then-may_have_mark : goal.returns-then-may_have_mark
returns-then-may_have_mark c =
    c.natural.ensures ∙ ap (λ t. in_word (natural c.args.base t)) c.behind_mark.ensures ∙ ap in_word (base_marked c.args.base c.args.text.now (sym c.may_have_mark.ensures ∙ c.if-may_have_mark.true))

pub returns-else-may_have_mark : goal.returns-else-may_have_mark
returns-else-may_have_mark c = c.natural-else-may_have_mark.ensures ∙ ap in_word (base_plain c.args.base c.args.text.now (sym c.may_have_mark.ensures ∙ c.if-may_have_mark.false))
