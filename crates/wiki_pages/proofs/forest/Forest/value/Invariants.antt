use Rattle.std.proofs.Common.{◌≡◌, ◌≤◌}
use Rattle.expand_texts.specs.ExpandMeaningPlaces.{value_in}
use Rattle.wiki_pages.specs.Forests.{trees_in, size, Amid}
use Rattle.wiki_pages.proofs.forest.Forest.value.Given as goal

abbrev pub invariant-loop-rest : goal.invariant-loop-rest
invariant-loop-rest l = record {
  value : value_in (trees_in l.rest) ≡ value_in (trees_in l.self);
  size : size l.rest ≤ size l.self;
  stays : Amid l.rest l.self;
}

abbrev pub decreases-loop-rest : goal.decreases-loop-rest
decreases-loop-rest l = size l.rest
