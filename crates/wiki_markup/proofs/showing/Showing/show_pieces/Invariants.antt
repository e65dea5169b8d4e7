use Rattle.std.proofs.Common.{◌≡◌, ◌-◌, ◌≤◌, drop, length, false}
use Rattle.wiki_markup.specs.Shown.{pieces}
use Rattle.wiki_markup.specs.Places.{put_pieces}
use Rattle.wiki_markup.proofs.showing.Showing.show_pieces.Given as goal

abbrev pub invariant-loop-at : goal.invariant-loop-at
invariant-loop-at l = record {
  inside : l.at ≤ length l.text;
  same : put_pieces (pieces l.mode l.part 0 false l.text) l.initial.self ≡ put_pieces (pieces l.mode l.part 0 l.line (drop l.at l.text)) l.self;
}

abbrev pub decreases-loop-at : goal.decreases-loop-at
decreases-loop-at l = length l.initial.text - l.at
