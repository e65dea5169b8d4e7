use Rattle.std.proofs.Common.{◌≡◌, ◌≤◌, ◌+◌, ◌-◌, ◌++◌, length, drop}
use Rattle.wiki_markup.specs.Items.{letters_from}
use Rattle.wiki_markup.proofs.pairing.letters.Given as goal

abbrev pub invariant-loop-at : goal.invariant-loop-at
invariant-loop-at l = record {
  spans : l.k ≤ length l.literals;
  cuts : l.c ≤ length l.cuts;
  bytes : l.at ≤ length l.bytes;
  same : letters_from l.literals l.cuts 0 l.bytes ≡ l.out.items ++ letters_from (drop l.k l.literals) (drop l.c l.cuts) l.at (drop l.at l.bytes);
}

abbrev pub decreases-loop-at : goal.decreases-loop-at
decreases-loop-at l = (length l.initial.literals - l.k) + ((length l.initial.cuts - l.c) + (length l.initial.bytes - l.at))
