use Rattle.wiki_markup.proofs.PlaceLaws.{plain_at}
use Rattle.wiki_markup.proofs.rules.at_place.Goals as goal

pub returns-then-text-at-ne60-clause-same : goal.returns-then-text-at-ne60-clause-same
returns-then-text-at-ne60-clause-same c = rw c.if-not-line.true (plain_at c.args.mode c.args.part c.args.text.now c.args.at c.requires.inside c.if-text-at-ne60.true)
