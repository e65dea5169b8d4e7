use Rattle.std.proofs.Common.{◌-◌, ◌≤◌, suc, length}
use Rattle.wiki_markup.specs.Shown.{parts}
use Rattle.wiki_markup.specs.Places.{put_pieces}
use Rattle.wiki_markup.proofs.ScanLaws.{PartsFrom}
use Rattle.wiki_markup.proofs.showing.Showing.show_parts.Given as goal

abbrev pub invariant-parts : goal.invariant-parts
invariant-parts l = record {
  inside : l.at ≤ length l.text;
  same : PartsFrom l.mode l.text l.at (put_pieces (parts l.mode (suc (length l.text)) l.text) l.initial.self) l.self;
}

abbrev pub decreases-parts : goal.decreases-parts
decreases-parts l = length l.initial.text - l.at
