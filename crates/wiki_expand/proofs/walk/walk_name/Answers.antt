use Rattle.std.proofs.Common.{ap}
use Rattle.wiki_pages.specs.Forests.{trees_in}
use Rattle.wiki_pages.specs.ExpandMeaningPlaces.{name_in}
use Rattle.expand_texts.specs.ExpandMeaningExpand.{onward}
use Rattle.wiki_expand.proofs.walk.walk_name.Goals as goal

pub returns-clause-starts : goal.returns-clause-starts
returns-clause-starts c = λ sc k. ap (λ out. onward (name_in (trees_in c.args.rest)) sc out k) c.new.ensures
