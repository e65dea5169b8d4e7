use Rattle.std.proofs.Common.{◌∙◌, sym}
use Rattle.mw_texts.proofs.Lengths.{stays, two_digits, three_digits}
use Rattle.mw_texts.proofs.paying.nowiki_cost.Goals as goal

pub returns-then-not-is_markup : goal.returns-then-not-is_markup
returns-then-not-is_markup c = stays c.args.byte (sym c.is_markup.ensures ∙ c.if-not-is_markup.true)

pub returns-then-byte-lt100 : goal.returns-then-byte-lt100
returns-then-byte-lt100 c = two_digits c.args.byte (sym c.is_markup.ensures ∙ c.if-not-is_markup.false) c.if-byte-lt100.true

pub returns : goal.returns
returns c = three_digits c.args.byte (sym c.is_markup.ensures ∙ c.if-not-is_markup.false) c.if-byte-lt100.false
