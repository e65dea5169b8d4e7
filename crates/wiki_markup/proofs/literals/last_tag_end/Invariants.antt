use Rattle.std.proofs.Common.{◌≤◌, length}
use Rattle.wiki_markup.specs.Places.{NoTagEnd}
use Rattle.wiki_markup.proofs.literals.last_tag_end.Given as goal

abbrev pub invariant-loop-limit : goal.invariant-loop-limit
invariant-loop-limit l = record {
  inside : l.limit ≤ length l.text;
  none : NoTagEnd l.text l.limit;
}

abbrev pub decreases-loop-limit : goal.decreases-loop-limit
decreases-loop-limit l = l.limit
