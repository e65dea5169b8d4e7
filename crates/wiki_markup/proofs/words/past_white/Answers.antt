use Rattle.std.proofs.Common.{◌∙◌, sym, arith}
use Rattle.wk_base.specs.Space.{is_white}
use Rattle.wiki_markup.proofs.PlaceLaws.{past_goes, past_stops, past_all}
use Rattle.wiki_markup.proofs.words.past_white.Goals as goal

pub returns-then-not-is_white-clause-same : goal.returns-then-not-is_white-clause-same
returns-then-not-is_white-clause-same c = c.loop-at.invariant ∙ past_stops is_white c.args.text.now c.loop-at.at (omega arith) (sym c.is_white.ensures ∙ c.if-not-is_white.true)

pub loop-at-preserved : goal.loop-at-preserved
loop-at-preserved c = c.loop-at.invariant ∙ past_goes is_white c.args.text.now c.loop-at.at (omega arith) (sym c.is_white.ensures ∙ c.if-not-is_white.false)

pub returns-clause-same : goal.returns-clause-same
returns-clause-same c = c.loop-at.invariant ∙ past_all is_white c.args.text.now c.loop-at.at (omega arith)
