use Rattle.std.proofs.Common.{◌≡◌, drop, false}
use Rattle.wiki_markup.specs.Shown.{attributes}
use Rattle.wiki_markup.proofs.literals.attributes.Given as goal

abbrev pub invariant-loop-at : goal.invariant-loop-at
invariant-loop-at l = attributes false (drop l.from l.text) ≡ attributes l.slash (drop l.at l.text)
