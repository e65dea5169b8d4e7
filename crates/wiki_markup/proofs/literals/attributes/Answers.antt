use Rattle.std.proofs.Common.{◌∙◌, arith}
use Rattle.wiki_markup.proofs.PlaceLaws.{attributes_end, attributes_goes, attributes_all, attributes_from}
use Rattle.wiki_markup.proofs.literals.attributes.Goals as goal

pub returns-then-from-limit-clause-same : goal.returns-then-from-limit-clause-same
returns-then-from-limit-clause-same c = attributes_from c.args.limit c.args.from c.args.text.now c.if-from-limit.true c.requires.limit

pub returns-then-text-at-eq62-clause-same : goal.returns-then-text-at-eq62-clause-same
returns-then-text-at-eq62-clause-same c = c.loop-at.invariant ∙ attributes_end c.loop-at.slash c.args.text.now c.loop-at.at (omega arith) c.if-text-at-eq62.true

pub loop-at-preserved : goal.loop-at-preserved
loop-at-preserved c = c.loop-at.invariant ∙ attributes_goes c.loop-at.slash c.args.text.now c.loop-at.at (omega arith) c.if-text-at-eq62.false

pub returns-clause-same : goal.returns-clause-same
returns-clause-same c = c.loop-at.invariant ∙ attributes_all c.loop-at.slash c.args.text.now c.loop-at.at (omega arith)
