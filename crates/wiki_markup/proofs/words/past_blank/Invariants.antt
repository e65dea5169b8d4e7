use Rattle.std.proofs.Common.{◌≡◌, drop}
use Rattle.wiki_markup.specs.Shown.{past, is_blank}
use Rattle.wiki_markup.proofs.words.past_blank.Given as goal

abbrev pub invariant-loop-at : goal.invariant-loop-at
invariant-loop-at l = past is_blank (drop l.from l.text) ≡ past is_blank (drop l.at l.text)
