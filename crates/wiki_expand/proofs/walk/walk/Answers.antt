use Rattle.std.proofs.Common.{ap}
use Rattle.wiki_pages.specs.Forests.{trees_in}
use Rattle.expand_texts.specs.ExpandMeaningExpand.{onward}
use Rattle.wiki_expand.proofs.walk.walk.Goals as goal

pub returns-clause-starts : goal.returns-clause-starts
returns-clause-starts c = λ sc k. ap (λ out. onward (trees_in c.args.rest) sc out k) c.new.ensures
