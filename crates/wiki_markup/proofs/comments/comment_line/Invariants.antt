use Rattle.std.proofs.Common.{◌<◌, ◌≤◌, ◌-◌, length}
use Rattle.wiki_markup.proofs.PlaceLaws.{LineFrom}
use Rattle.wiki_markup.proofs.comments.comment_line.Given as goal

abbrev pub invariant-comments : goal.invariant-comments
invariant-comments l = record {
  ahead : l.at < l.p;
  inside : l.p ≤ length l.text;
  line : LineFrom l.text l.at l.p;
}

abbrev pub decreases-comments : goal.decreases-comments
decreases-comments l = length l.initial.text - l.p
