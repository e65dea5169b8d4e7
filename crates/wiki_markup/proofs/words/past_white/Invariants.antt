use Rattle.std.proofs.Common.{◌≡◌, drop}
use Rattle.wk_base.specs.Space.{is_white}
use Rattle.wiki_markup.specs.Shown.{past}
use Rattle.wiki_markup.proofs.words.past_white.Given as goal

abbrev pub invariant-loop-at : goal.invariant-loop-at
invariant-loop-at l = past is_white (drop l.from l.text) ≡ past is_white (drop l.at l.text)
