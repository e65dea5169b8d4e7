use Rattle.std.proofs.Common.{ap}
use Rattle.wiki_markup.specs.declared.marked.Mode.TheVariants.{Direct, Transcluded}
use Rattle.wiki_pages.specs.Entries.{Entry}
use Rattle.wiki_texts.proofs.PreparedLaws.{is_formed}
use Rattle.wiki_texts.proofs.pages.add_page.Goals as goal

pub add-requires-clause-direct : goal.add-requires-clause-direct
add-requires-clause-direct c = is_formed _ Direct _ (ap (λ (e : Entry). e.direct) c.requires)

pub add-requires-clause-transcluded : goal.add-requires-clause-transcluded
add-requires-clause-transcluded c = is_formed _ Transcluded _ (ap (λ (e : Entry). e.transcluded) c.requires)
