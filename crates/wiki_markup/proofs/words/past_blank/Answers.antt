use Rattle.std.proofs.Common.{◌∙◌, sym, arith}
use Rattle.wiki_markup.specs.Shown.{is_blank}
use Rattle.wiki_markup.proofs.PlaceLaws.{past_goes, past_stops, past_all}
use Rattle.wiki_markup.proofs.words.past_blank.Goals as goal

pub returns-then-not-is_blank-clause-same : goal.returns-then-not-is_blank-clause-same
returns-then-not-is_blank-clause-same c = c.loop-at.invariant ∙ past_stops is_blank c.args.text.now c.loop-at.at (omega arith) (sym c.is_blank.ensures ∙ c.if-not-is_blank.true)

pub loop-at-preserved : goal.loop-at-preserved
loop-at-preserved c = c.loop-at.invariant ∙ past_goes is_blank c.args.text.now c.loop-at.at (omega arith) (sym c.is_blank.ensures ∙ c.if-not-is_blank.false)

pub returns-clause-same : goal.returns-clause-same
returns-clause-same c = c.loop-at.invariant ∙ past_all is_blank c.args.text.now c.loop-at.at (omega arith)
