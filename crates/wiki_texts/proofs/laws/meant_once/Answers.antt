use Rattle.wiki_texts.proofs.MeaningLaws.{meant_once}
use Rattle.wiki_texts.proofs.laws.meant_once.Goals as goal

pub returns : goal.returns
returns c = meant_once
