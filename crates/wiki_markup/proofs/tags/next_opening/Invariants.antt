use Rattle.std.proofs.Common.{◌≡◌, drop}
use Rattle.wiki_markup.specs.Shown.{opening, behind_next}
use Rattle.wiki_markup.proofs.tags.next_opening.Given as goal

abbrev pub invariant-loop-at : goal.invariant-loop-at
invariant-loop-at l = behind_next (opening l.name) (drop l.from l.text) ≡ behind_next (opening l.name) (drop l.at l.text)
