use Rattle.std.proofs.Common.{◌≡◌, ◌-◌, ◌++◌, take, drop}
use Rattle.wiki_markup.specs.Shown.{closing, behind_next, before_next}
use Rattle.wiki_markup.proofs.tags.find_closing.Given as goal

abbrev pub invariant-loop-at : goal.invariant-loop-at
invariant-loop-at l = record {
  same : behind_next (closing l.name) (drop l.from l.text) ≡ behind_next (closing l.name) (drop l.at l.text);
  front : before_next (closing l.name) (drop l.from l.text) ≡ take (l.at - l.from) (drop l.from l.text) ++ before_next (closing l.name) (drop l.at l.text);
}
